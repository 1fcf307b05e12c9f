-- The trace and the report of a run that two texts say together, and that the headline holds of it.
use Rattle.std.specs.Prelude.{◌≡◌, ℕ, false, List, [], ◌∷◌, ◌++◌, Option}
use Rattle.scx_sched_machine.specs.declared.events.Event.{Event}
use Rattle.scx_sched_policy.specs.Policy.{IsTimeout, AreAs}
use Rattle.scx_sched_machine.specs.Start.{is_bad_shape}
use Rattle.scx_sched.specs.Sim.{SimState}
use Rattle.scx_load_workloads.specs.Workload.{WorkloadState, first_tree}
use Rattle.scx_load_replay.specs.Replay.{ReplayState}
use Rattle.scx_load_replay.specs.Events.{replay_events}
use Rattle.scx_load_driver.specs.Runs.{stepped_all, notes_of_all}
use Rattle.scx_load_driver.specs.Events.{workload_events}
use Rattle.scx_load_driver.specs.Headline.{Run, machine_run, IsLast, NoneIsStuck, EachIsOnce, EachWaitIsCounted, NoneIsLate, EachUsageIsBounded, EachFollows}
use Rattle.scxsim_trace.specs.Lines.{names_of, note_lines}
use Rattle.scxsim_trace.specs.Runs.{IsCutIn}
use Rattle.scxsim_trace.specs.Report as reports
use Rattle.scxsim_runs.specs.Runs.{IsBegun}
use Rattle.scxsim_simulation.specs.Machines.{AreMachinesOf}

-- a line for each note of its events
abbrev pub trace_text : WorkloadState → SimState → List ℕ
trace_text w s = note_lines (names_of w) (notes_of_all s (workload_events w s))

-- a line for each note of the run of a file of events
abbrev pub replay_text : ReplayState → SimState → List ℕ
replay_text r s = note_lines (names_of r.workload) (notes_of_all s (replay_events r))

-- the machine after all events
abbrev pub last_of : WorkloadState → SimState → SimState
last_of w s = stepped_all s (workload_events w s)

-- how long each task has run then, and whether the policy is in force
abbrev pub report_text : WorkloadState → SimState → List ℕ
report_text w s =
    reports.report (names_of w) (reports.times (last_of w s).state.world)
    (last_of w s).state.world.ejected

-- ---- the headline, of a run that has begun so

-- the run of its machine through these events
abbrev pub run_of :
    {policy : List ℕ} {w : WorkloadState} {s : SimState} → IsBegun policy w s → List Event → Run
run_of {policy} {w} {s} x events = machine_run x.machine (first_tree w) w.cpus events

-- Through these events it is that run: it has these notes, and ends in that state. In it no
-- callback is ever stuck or takes more steps than it has instructions, every runnable task appears
-- exactly once on a processor or in a queue, each wait is counted, while the policy is in force
-- no task has waited longer than the limit in the policy's text, and in no period does a group
-- with a quota use as much as its quota and one millisecond for each processor. Each event does
-- what it alone decides. The machine has a good shape, a limit of 1 to 30,000 milliseconds and
-- programs that were verified as its callbacks, and these are, as it begins and after each event,
-- those of the two texts.
pub record IsOfHeadline {policy : List ℕ} {w : WorkloadState} {s : SimState}
    (x : IsBegun policy w s) (events : List Event) : Type 0 where
  pub notes : (run_of x events).notes ≡ notes_of_all s events
  pub last : IsLast (stepped_all s events) (run_of x events).states
  pub never_stuck : NoneIsStuck (run_of x events)
  pub once : EachIsOnce (run_of x events)
  pub counted : EachWaitIsCounted (run_of x events)
  pub timely : NoneIsLate x.file.timeout_ms (run_of x events)
  pub bounded : EachUsageIsBounded (run_of x events)
  pub follows : EachFollows events (run_of x events).states
  pub shape : is_bad_shape (first_tree w) w.cpus ≡ false
  pub limit : IsTimeout x.file.timeout_ms
  pub programs : AreAs x.machine.callbacks
  pub machine : AreMachinesOf x.file w w.own_weights events (run_of x events).states

-- The machine took these events up to the first one of which a line wasn't written whole, and
-- none after it.
pub record IsCutOff {policy : List ℕ} {w : WorkloadState} {s : SimState} (x : IsBegun policy w s)
    (events : List Event) (old new : Option (List ℕ)) : Type 0 where
  pub done : List Event
  pub event : Event
  pub rest : List Event
  pub whole : events ≡ done ++ event ∷ rest
  pub headline : IsOfHeadline x (done ++ event ∷ [])
  pub lines : IsCutIn (names_of w) s done event old new
