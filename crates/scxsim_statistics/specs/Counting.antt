-- The counts of each task and each CPU as a run goes on, one note and one event after another.
use Rattle.std.specs.Prelude.{ℕ, zero, suc, ◌-◌, ◌==◌, if◌then◌else◌, Bool, true, false, List, length, replicate, Option, Some, None, is_some, slice_index_or, slice_set}
use Rattle.scx_sched_world.specs.declared.notes.What.{What}
use Rattle.scx_sched_world.specs.declared.notes.What.TheVariants.{Wake, Sleep, Run, Stop}
use Rattle.scx_sched_world.specs.World.{WorldState, task_at, running}
use Rattle.scx_sched_machine.specs.declared.events.Event.{Event}
use Rattle.scx_sched_machine.specs.declared.events.Event.TheVariants as event
use Rattle.scx_sched.specs.Sim.{SimState}
use Rattle.scxsim_trace.specs.Report.{ran_ms}
use Rattle.scxsim_views.specs.declared.pauses.Doing.{Doing}
use Rattle.scxsim_views.specs.declared.pauses.Doing.TheVariants.{Sleeps}
use Rattle.scxsim_views.specs.declared.pauses.Pause.{Pause}
use Rattle.scxsim_views.specs.declared.pauses.PauseKind.{PauseKind}
use Rattle.scxsim_views.specs.declared.pauses.PauseKind.TheVariants as kind
use Rattle.scxsim_views.specs.Pauses.{sleeps, doing_at, doing_after, open_pause, ended_by}
use Rattle.scxsim_views.specs.Lengths.{no_lengths, up, up_by, with_wait}
use Rattle.scxsim_statistics.specs.Bursts.{no_bursts, slept_at, bursts_noted}
use Rattle.scxsim_statistics.specs.Latencies.{no_latencies, latencies_noted}
use Rattle.scxsim_statistics.specs.Losses.{loses, lost_if, anywhere_if}
use Rattle.scxsim_statistics.specs.declared.bursts.BurstFigures.{BurstFigures}
use Rattle.scxsim_statistics.specs.declared.latencies.LatencyFigures.{LatencyFigures}
use Rattle.scxsim_statistics.specs.declared.tally.TaskFigures.{TaskFigures}
use Rattle.scxsim_statistics.specs.declared.tally.CpuFigures.{CpuFigures}
use Rattle.scxsim_statistics.specs.declared.tally.RunTally.{RunTally}

-- what is counted
pub record RunCounts : Type 0 where
  pub tasks : List TaskFigures
  pub cpus : List CpuFigures
  pub doing : List Doing
  pub bursts : List BurstFigures
  pub latencies : List LatencyFigures
  pub lost : List ℕ  -- the milliseconds that each processor lost
  pub anywhere : ℕ  -- those in which some processor lost one

-- what a tally has counted
abbrev pub counts_of : RunTally → RunCounts
counts_of t = record {
  tasks = t.tasks.items;
  cpus = t.cpus.items;
  doing = t.pauses;
  bursts = t.bursts.items;
  latencies = t.latencies.items;
  lost = t.losses.cpus.items;
  anywhere = t.losses.anywhere;
}

-- the figures of a task before a run: nothing has been counted of it
abbrev pub no_figures : TaskFigures
no_figures = record { run = 0; waits = no_lengths; wakes = 0; stopped = 0; parked = 0 }

-- the figures of a processor before a run: nothing has been counted, and no task has begun on it
abbrev pub unused_cpu : CpuFigures
unused_cpu = record { busy = 0; idle = 0; changes = 0; last = None }

-- before the run
abbrev pub nothing : ℕ → ℕ → RunCounts
nothing tasks cpus = record {
  tasks = replicate tasks no_figures;
  cpus = replicate cpus unused_cpu;
  doing = replicate tasks Sleeps;
  bursts = replicate tasks no_bursts;
  latencies = replicate tasks no_latencies;
  lost = replicate cpus 0;
  anywhere = 0;
}

-- the figures of the task of that number; those before a run where there is none
abbrev pub figures_at : List TaskFigures → ℕ → TaskFigures
figures_at tasks t = slice_index_or tasks t no_figures

-- the figures of the processor of that number; those before a run where there is none
abbrev pub cpu_at : List CpuFigures → ℕ → CpuFigures
cpu_at cpus c = slice_index_or cpus c unused_cpu

-- ---- tasks

-- a task's figures with one wake more
abbrev pub with_wake : TaskFigures → TaskFigures
with_wake x = record x { wakes = up x.wakes }

-- a task's figures with one stop more although it had work to do
abbrev pub with_stop : TaskFigures → TaskFigures
with_stop x = record x { stopped = up x.stopped }

-- a task's figures with that many milliseconds that it ran, in place of those before
abbrev pub with_run : ℕ → TaskFigures → TaskFigures
with_run ms x = record x { run = ms }

-- a task's figures with a pause of that kind more: one more wait, or more parked milliseconds
abbrev pub with_pause_of : PauseKind → Pause → TaskFigures → TaskFigures
with_pause_of kind.Wait p x = record x { waits = with_wait p x.waits }
with_pause_of kind.Parked p x = record x { parked = up_by (p.until - p.since) x.parked }

-- a task's figures with one pause more, a wait or parked as the pause says
abbrev pub with_pause : Pause → TaskFigures → TaskFigures
with_pause p x = with_pause_of p.kind p x

-- one more wake of the task of that number, if it is there
abbrev pub with_wake_at : List TaskFigures → ℕ → List TaskFigures
with_wake_at tasks t = slice_set tasks t (with_wake (figures_at tasks t))

-- one more stop, although there was work to do, of the task of that number, if it is there
abbrev pub cut_off : List TaskFigures → ℕ → List TaskFigures
cut_off tasks t = slice_set tasks t (with_stop (figures_at tasks t))

-- the task of that number, if it is there, ran for that many milliseconds in all
abbrev pub has_run : List TaskFigures → ℕ → ℕ → List TaskFigures
has_run tasks t ms = slice_set tasks t (with_run ms (figures_at tasks t))

-- the pause of a task is counted in the figures of that task, if it is there
abbrev pub with_pause_at : List TaskFigures → Pause → List TaskFigures
with_pause_at tasks p = slice_set tasks p.task (with_pause p (figures_at tasks p.task))

-- the pause, if there is one, is counted in the figures of its task
abbrev pub after_pause : Option Pause → List TaskFigures → List TaskFigures
after_pause None tasks = tasks
after_pause (Some p) tasks = with_pause_at tasks p

-- what a note counts for its task, which does `d` after it: a wake, or a stop if it doesn't sleep
abbrev pub counted_for : What → Doing → TaskFigures → TaskFigures
counted_for (Wake t) d x = with_wake x
counted_for (Stop t c) d x = if sleeps d then x else with_stop x
counted_for what d x = x

-- the task of that number stops, and that is counted unless it sleeps or isn't there
abbrev pub stop_counted : List Doing → List TaskFigures → ℕ → List TaskFigures
stop_counted ds tasks t = if sleeps (doing_at ds t) then tasks else cut_off tasks t

-- tasks' figures with the wake counted that a note tells, or a stop of one that doesn't sleep then
abbrev pub tasks_counted : What → List Doing → List TaskFigures → List TaskFigures
tasks_counted (Wake t) ds tasks = with_wake_at tasks t
tasks_counted (Stop t c) ds tasks = stop_counted ds tasks t
tasks_counted what ds tasks = tasks

-- ---- processors

-- a processor's figures with one tick more: busy where it ran a task before it, or else idle
abbrev pub with_tick : Bool → CpuFigures → CpuFigures
with_tick true x = record x { busy = up x.busy }
with_tick false x = record x { idle = up x.idle }

-- one tick more of the processor of that number; where there is none, nothing changes
abbrev pub with_tick_at : List CpuFigures → ℕ → Bool → List CpuFigures
with_tick_at cpus c is_busy = slice_set cpus c (with_tick is_busy (cpu_at cpus c))

-- the count of changes as a task begins to run: one more where the last to begin was another
abbrev pub changes_after : Option ℕ → ℕ → ℕ → ℕ
changes_after None t n = n
changes_after (Some last) t n = if last == t then n else up n

-- a processor's figures as that task begins to run on it
abbrev pub with_begin : ℕ → CpuFigures → CpuFigures
with_begin t x = record x { changes = changes_after x.last t x.changes; last = Some t }

-- that task begins to run on the processor of that number; where there is none, nothing changes
abbrev pub begun_on : List CpuFigures → ℕ → ℕ → List CpuFigures
begun_on cpus t c = slice_set cpus c (with_begin t (cpu_at cpus c))

-- processors' figures after a note: where it tells that a task runs, the task begins to run there
abbrev pub cpus_counted : What → List CpuFigures → List CpuFigures
cpus_counted (Run t c) cpus = begun_on cpus t c
cpus_counted what cpus = cpus

-- ---- a run

-- the pause that a note ends
abbrev pub pause_counted : ℕ → What → RunCounts → RunCounts
pause_counted clock what k = record k {
  tasks = after_pause (ended_by clock what k.doing) k.tasks;
  doing = doing_after clock what k.doing;
}

-- what a note counts beside the pause that it ends, of tasks that already do what it says
abbrev pub counts_after_step : What → RunCounts → RunCounts
counts_after_step what k = record k {
  tasks = tasks_counted what k.doing k.tasks;
  cpus = cpus_counted what k.cpus;
}

-- the burst that a note begins or ends
abbrev pub burst_counted : ℕ → What → RunCounts → RunCounts
burst_counted clock what k = record k { bursts = bursts_noted clock what k.bursts }

-- the latency that a note begins or ends
abbrev pub latency_counted : ℕ → What → RunCounts → RunCounts
latency_counted clock what k = record k { latencies = latencies_noted clock what k.latencies }

-- a note
abbrev pub counts_after_note : ℕ → What → RunCounts → RunCounts
counts_after_note clock what k =
    latency_counted clock what
    (burst_counted clock what (counts_after_step what (pause_counted clock what k)))

-- what processors lose of the millisecond whose ticks begin with this one
abbrev pub loss_counted : WorldState → ℕ → RunCounts → RunCounts
loss_counted w c k = record k {
  lost = lost_if (loses c k.doing) w k.doing k.lost;
  anywhere = anywhere_if (loses c k.doing) w k.doing k.anywhere;
}

-- a tick of a processor that runs a task before it, or none
abbrev pub tick_counted : ℕ → Bool → RunCounts → RunCounts
tick_counted c is_busy k = record k { cpus = with_tick_at k.cpus c is_busy }

-- how long a task has run that goes to sleep in that world
abbrev pub sleep_counted : WorldState → ℕ → RunCounts → RunCounts
sleep_counted w t k = record k { bursts = slept_at k.bursts t (ran_ms (task_at w t)) }

-- an event, by the state before it
abbrev pub counts_after_event : SimState → Event → RunCounts → RunCounts
counts_after_event s (event.Tick c) k =
    tick_counted c (is_some (running s.state.world c)) (loss_counted s.state.world c k)
counts_after_event s (event.Wake t) k = k
counts_after_event s (event.Sleep t) k = sleep_counted s.state.world t k
counts_after_event s event.Clock k = k
counts_after_event s (event.SetWeight g x) k = k
counts_after_event s (event.SetTaskWeight t x) k = k

-- as the run ends, the pauses that go on end for the tasks below that number, and each has
-- run as long as it has
abbrev pub ended_below : ℕ → WorldState → List Doing → List TaskFigures → List TaskFigures
ended_below zero w ds tasks = tasks
ended_below (suc t) w ds tasks =
    after_pause (open_pause w.clock ds t)
    (has_run (ended_below t w ds tasks) t (ran_ms (task_at w t)))

-- what is counted once the run has ended in that world
abbrev pub counts_at_end : WorldState → RunCounts → RunCounts
counts_at_end w k = record k { tasks = ended_below (length w.tasks) w k.doing k.tasks }
