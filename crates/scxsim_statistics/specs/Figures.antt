-- The figures of a run, from its notes and events.
use Rattle.std.specs.Prelude.{◌≡◌, ℕ, zero, suc, ◌+◌, ◌-◌, ◌<◌, ◌≤◌, ◌==◌, ◌&&◌, max, Bool, true, false, not, List, [], ◌∷◌, ◌++◌, length, map, replicate, sum, Option, Some, None, is_some, Ok, string_bytes, if◌then◌else◌, filter}
use Rattle.std.specs.List.{list_any}
use Rattle.scx_sched_world.specs.declared.notes.Note.{Note}
use Rattle.scx_sched_world.specs.declared.notes.What.{What}
use Rattle.scx_sched_world.specs.declared.notes.What.TheVariants.{Wake, Sleep, Run, Stop}
use Rattle.scx_sched_world.specs.declared.eject.Eject.{Eject}
use Rattle.scx_sched_world.specs.World.{WorldState, task_at, running}
use Rattle.scx_sched_machine.specs.declared.events.Event.{Event}
use Rattle.scx_sched_machine.specs.declared.events.Event.TheVariants as event
use Rattle.scx_sched.specs.Sim.{SimState, after_event, notes_of}
use Rattle.scx_load_driver.specs.Runs.{stepped_all, notes_of_all}
use Rattle.scxsim_trace.specs.Report.{ran_ms}
use Rattle.scx_load_workloads.specs.Workload.{WorkloadState}
use Rattle.scx_load_replay.specs.Replay.{ReplayState}
use Rattle.scx_load_replay.specs.Events.{replay_events}
use Rattle.scxsim_runs.specs.Runs.{name_in}
use Rattle.scxsim_runs.specs.Scenarios.{IsScenarioRun}
use Rattle.scx_load_replay.specs.declared.scenario.Scenario.{Scenario}
use Rattle.scx_load_replay.specs.Scenarios.{workload_of, scenario_events}
use Rattle.scxsim_runs.specs.Replays.{IsReplayRun}
use Rattle.scxsim_views.specs.declared.pauses.Doing.{Doing}
use Rattle.scxsim_views.specs.declared.pauses.Doing.TheVariants.{Sleeps}
use Rattle.scxsim_views.specs.declared.pauses.Pause.{Pause}
use Rattle.scxsim_views.specs.declared.pauses.PauseKind.{PauseKind}
use Rattle.scxsim_views.specs.declared.pauses.PauseKind.TheVariants as kind
use Rattle.scxsim_views.specs.Pauses.{sleeps, waits, of_task, does, doing_after, ending_pause, pause_of}
use Rattle.scxsim_views.specs.Watching.{noted_all}
use Rattle.scxsim_views.specs.Lengths.{one_if, at_most_64_bits, length_of}
use Rattle.scxsim_views.specs.Percentiles.{ArePercentiles}
use Rattle.scxsim_statistics.specs.Bursts.{bursts_at, burst_ms}
use Rattle.scxsim_statistics.specs.Latencies.{latencies_at}
use Rattle.scxsim_statistics.specs.Groups.{is_in, waits_at, waits_below}
use Rattle.scxsim_statistics.specs.Losses.{is_wasted, wasted_below, lost_at}
use Rattle.scxsim_statistics.specs.Counting.{RunCounts, figures_at, cpu_at}
use Rattle.scxsim_statistics.specs.declared.tally.TaskFigures.{TaskFigures}
use Rattle.scxsim_statistics.specs.declared.tally.CpuFigures.{CpuFigures}
use Rattle.scxsim_statistics.specs.declared.bursts.BurstFigures.{BurstFigures}
use Rattle.scxsim_statistics.specs.declared.latencies.LatencyFigures.{LatencyFigures}
use Rattle.scxsim_statistics.specs.declared.group_waits.GroupWaits.{GroupWaits}
use Rattle.scxsim_statistics.specs.declared.gathering.Figures.{Figures}
use Rattle.scxsim_statistics.specs.declared.gathering.Gathered.{Gathered}

-- ---- what a task does, and its pauses

-- there is a task, and it has that number
abbrev pub is_that : ℕ → Option ℕ → Bool
is_that t None = false
is_that t (Some u) = t == u

-- the note is of that task
abbrev pub is_of : ℕ → What → Bool
is_of t what = is_that t (of_task what)

-- what the task does after a note, if it did `d` before it
abbrev pub does_at : ℕ → Note → Doing → Doing
does_at t n d = if is_of t n.what then does n.clock n.what d else d

-- what the task does after some notes, if it did `d` before them
abbrev pub does_after : ℕ → Doing → List Note → Doing
does_after t d [] = d
does_after t d (n ∷ ns) = does_after t (does_at t n d) ns

-- one pause or none, as a list
abbrev pub to_list : Option Pause → List Pause
to_list None = []
to_list (Some p) = p ∷ []

-- the pause of a task that a note ends, by what the task did before; none where it ends none
abbrev pub ended_at : ℕ → Note → Doing → Option Pause
ended_at t n d = if is_of t n.what then ending_pause n.clock t n.what d else None

-- its pauses that end in these notes
abbrev pub pauses_in : ℕ → Doing → List Note → List Pause
pauses_in t d [] = []
pauses_in t d (n ∷ ns) = to_list (ended_at t n d) ++ pauses_in t (does_at t n d) ns

-- all of its pauses in a run that ends at that clock
abbrev pub pauses_of : ℕ → ℕ → List Note → List Pause
pauses_of t clock ns = pauses_in t Sleeps ns ++ to_list (pause_of clock t (does_after t Sleeps ns))

-- a pause of this kind is a wait for a processor; a parked task doesn't wait
abbrev pub is_wait_kind : PauseKind → Bool
is_wait_kind kind.Wait = true
is_wait_kind kind.Parked = false

-- in this pause its task waits, and isn't parked
abbrev pub is_wait : Pause → Bool
is_wait p = is_wait_kind p.kind

-- all waits of a task in a run that ends at that clock, in the order in which they end
abbrev pub waits_of : ℕ → ℕ → List Note → List Pause
waits_of t clock ns = filter is_wait (pauses_of t clock ns)

-- how many milliseconds the longest of some pauses took; 0 of none
abbrev pub longest_of : List Pause → ℕ
longest_of [] = 0
longest_of (p ∷ ps) = max (length_of p) (longest_of ps)

-- ---- wakes and stops

-- the note says that this task wakes
abbrev pub is_wake : ℕ → What → Bool
is_wake t (Wake u) = t == u
is_wake t what = false

-- the note says that this task stops, on whatever processor
abbrev pub is_stop : ℕ → What → Bool
is_stop t (Stop u c) = t == u
is_stop t what = false

-- how often a task wakes in these notes
abbrev pub wakes_of : ℕ → List Note → ℕ
wakes_of t [] = 0
wakes_of t (n ∷ ns) = one_if (is_wake t n.what) + wakes_of t ns

-- how often it stops although it has work to do: that it sleeps is noted before it stops
abbrev pub stops_in : ℕ → Doing → List Note → ℕ
stops_in t d [] = 0
stops_in t d (n ∷ ns) = one_if (is_stop t n.what && not (sleeps d)) + stops_in t (does_at t n d) ns

-- ---- bursts

-- the note says that this task goes to sleep
abbrev pub is_sleep : ℕ → What → Bool
is_sleep t (Sleep u) = t == u
is_sleep t what = false

-- how many milliseconds the burst took that ends here, as a list; none where none ends
abbrev pub burst_if : Bool → ℕ → ℕ → List ℕ
burst_if true woke clock = burst_ms woke clock ∷ []
burst_if false woke clock = []

-- the lengths of the bursts of a task that end in these notes, if it woke at that clock before them
abbrev pub bursts_in : ℕ → ℕ → List Note → List ℕ
bursts_in t woke [] = []
bursts_in t woke (n ∷ ns) =
    burst_if (is_sleep t n.what) woke n.clock
    ++ bursts_in t (if is_wake t n.what then n.clock else woke) ns

-- the lengths of all finished bursts of a task in a run with these notes, in their order
abbrev pub bursts_of : ℕ → List Note → List ℕ
bursts_of t ns = bursts_in t 0 ns

-- the greatest of some numbers; 0 of none
abbrev pub greatest : List ℕ → ℕ
greatest [] = 0
greatest (x ∷ xs) = max x (greatest xs)

-- the event is that this task goes to sleep
abbrev pub sends_to_sleep : ℕ → Event → Bool
sends_to_sleep t (event.Sleep u) = t == u
sends_to_sleep t e = false

-- for how many milliseconds a task had run as it went to sleep last in these events from that state
-- on; as many as before if it doesn't
abbrev pub ran_asleep_in : ℕ → ℕ → SimState → List Event → ℕ
ran_asleep_in t ran s [] = ran
ran_asleep_in t ran s (e ∷ es) =
    ran_asleep_in t (if sends_to_sleep t e then ran_ms (task_at s.state.world t) else ran)
    (after_event s e) es

-- ---- wake-to-run latencies

-- the note says that this task runs, on whatever CPU
abbrev pub is_run : ℕ → What → Bool
is_run t (Run u c) = t == u
is_run t what = false

-- the clock at which a task woke that hasn't run since, after a note
abbrev pub woke_after : ℕ → Note → Option ℕ → Option ℕ
woke_after t n woke =
    if is_wake t n.what then Some n.clock else if is_run t n.what then None else woke

-- how many milliseconds passed from a wake to that clock, as a list; none where there was none
abbrev pub since_wake : Option ℕ → ℕ → List ℕ
since_wake None clock = []
since_wake (Some woke) clock = (clock - woke) ∷ []

-- the latency that a run of a task ends, as a list; none where it doesn't run
abbrev pub latency_if : Bool → Option ℕ → ℕ → List ℕ
latency_if true woke clock = since_wake woke clock
latency_if false woke clock = []

-- from each wake of a task to its first run after it, by how it woke before these notes
abbrev pub latencies_in : ℕ → Option ℕ → List Note → List ℕ
latencies_in t woke [] = []
latencies_in t woke (n ∷ ns) =
    latency_if (is_run t n.what) woke n.clock ++ latencies_in t (woke_after t n woke) ns

-- the wake-to-run latencies of a task in a run with these notes, in their order; a wake after which
-- it never runs has none
abbrev pub latencies_of : ℕ → List Note → List ℕ
latencies_of t ns = latencies_in t None ns

-- ---- groups

-- the numbers that are told of tasks, of all tasks below that number that are in a group
abbrev pub told_below : WorkloadState → ℕ → (ℕ → List ℕ) → ℕ → List ℕ
told_below w g told zero = []
told_below w g told (suc t) =
    told_below w g told t ++ (if is_in w g t then told t else [])

-- the lengths of all waits of a group's tasks in a run with these notes that ends at that clock
abbrev pub waits_of_group : WorkloadState → ℕ → ℕ → List Note → List ℕ
waits_of_group w g clock ns =
    told_below w g (λ t. map length_of (waits_of t clock ns)) (length w.homes)

-- the wake-to-run latencies of all tasks of a group in a run with these notes
abbrev pub latencies_of_group : WorkloadState → ℕ → List Note → List ℕ
latencies_of_group w g ns = told_below w g (λ t. latencies_of t ns) (length w.homes)

-- ---- processors

-- the event is a tick of this processor
abbrev pub is_tick : ℕ → Event → Bool
is_tick c (event.Tick b) = c == b
is_tick c e = false

-- ticks of a processor that runs a task before them, and of one that runs none
abbrev pub busy_in : ℕ → SimState → List Event → ℕ
busy_in c s [] = 0
busy_in c s (e ∷ es) =
    one_if (is_tick c e && is_some (running s.state.world c)) + busy_in c (after_event s e) es

-- ticks of a processor that runs no task before them, in these events from that state on
abbrev pub idle_in : ℕ → SimState → List Event → ℕ
idle_in c s [] = 0
idle_in c s (e ∷ es) =
    one_if (is_tick c e && not (is_some (running s.state.world c))) + idle_in c (after_event s e) es

-- ---- losses

-- the ticks of a millisecond begin with this event
abbrev pub begins_ticks : Event → Bool
begins_ticks (event.Tick c) = c == 0
begins_ticks e = false

-- what each task does after these notes
abbrev pub doing_after_notes : List Note → List Doing → List Doing
doing_after_notes ns ds = noted_all doing_after ns ds

-- the milliseconds of these events at whose first tick this CPU is idle and a task waits that may
-- run there; they begin in that state, with each task doing what the list says
abbrev pub lost_in : ℕ → List Doing → SimState → List Event → ℕ
lost_in c ds s [] = 0
lost_in c ds s (e ∷ es) =
    one_if ((begins_ticks e && list_any waits ds) && is_wasted s.state.world c ds)
    + lost_in c (doing_after_notes (notes_of s e) ds) (after_event s e) es

-- in the same events, for how many milliseconds some CPU is so
abbrev pub lost_anywhere_in : List Doing → SimState → List Event → ℕ
lost_anywhere_in ds s [] = 0
lost_anywhere_in ds s (e ∷ es) =
    one_if ((begins_ticks e && list_any waits ds)
    && wasted_below (length s.state.world.cpus) s.state.world ds)
    + lost_anywhere_in (doing_after_notes (notes_of s e) ds) (after_event s e) es

-- ---- a run

-- the figures of a run: of its tasks, their bursts and wake-to-run latencies, its groups and its
-- CPUs, for how many milliseconds each CPU and some CPU was idle while a task waited, and how the
-- policy ended
pub record RunFigures : Type 0 where
  pub tasks : List TaskFigures
  pub bursts : List BurstFigures
  pub latencies : List LatencyFigures
  pub groups : List GroupWaits
  pub cpus : List CpuFigures
  pub lost : List ℕ
  pub anywhere : ℕ
  pub ejected : Option Eject

-- what was counted, what that is for groups, and how the policy ended
abbrev pub of_counts : WorkloadState → RunCounts → Option Eject → RunFigures
of_counts w k o = record {
  tasks = k.tasks;
  bursts = k.bursts;
  latencies = k.latencies;
  groups = waits_below w k.tasks k.latencies (length w.groups);
  cpus = k.cpus;
  lost = k.lost;
  anywhere = k.anywhere;
  ejected = o;
}

-- those that were gathered
abbrev pub of_gathered : Gathered → RunFigures
of_gathered g = record {
  tasks = g.tally.tasks.items;
  bursts = g.tally.bursts.items;
  latencies = g.tally.latencies.items;
  groups = g.waits.items;
  cpus = g.tally.cpus.items;
  lost = g.tally.losses.cpus.items;
  anywhere = g.tally.losses.anywhere;
  ejected = g.ejected;
}

-- those that are handed out
abbrev pub of_figures : Figures → RunFigures
of_figures f = record {
  tasks = f.tasks.items;
  bursts = f.bursts.items;
  latencies = f.latencies.items;
  groups = f.group_waits.items;
  cpus = f.cpus.items;
  lost = f.losses.cpus.items;
  anywhere = f.losses.anywhere;
  ejected = f.ejected;
}

-- the figures of a task in a run with these notes that ends in that world
pub record IsOfTask (t : ℕ) (w : WorldState) (ns : List Note) (x : TaskFigures) : Type 0 where
  pub run : x.run ≡ ran_ms (task_at w t)
  pub wakes : x.wakes ≡ at_most_64_bits (wakes_of t ns)
  pub stopped : x.stopped ≡ at_most_64_bits (stops_in t Sleeps ns)
  pub waits : x.waits.count ≡ at_most_64_bits (length (waits_of t w.clock ns))
  pub longest : x.waits.longest ≡ longest_of (waits_of t w.clock ns)
  pub percentiles : ArePercentiles (map length_of (waits_of t w.clock ns)) x.waits

-- the finished bursts of a task in a run from that state through these events, with these notes
pub record IsOfBursts (t : ℕ) (s : SimState) (es : List Event) (ns : List Note) (x : BurstFigures)
    : Type 0 where
  pub count : x.lengths.count ≡ at_most_64_bits (length (bursts_of t ns))
  pub total : x.lengths.total ≡ at_most_64_bits (sum (bursts_of t ns))
  pub longest : x.lengths.longest ≡ greatest (bursts_of t ns)
  pub percentiles : ArePercentiles (bursts_of t ns) x.lengths
  pub ran : x.ran ≡ ran_asleep_in t 0 s es

-- the wake-to-run latencies of a task in a run with these notes
pub record AreLatencies (t : ℕ) (ns : List Note) (x : LatencyFigures) : Type 0 where
  pub count : x.lengths.count ≡ at_most_64_bits (length (latencies_of t ns))
  pub longest : x.lengths.longest ≡ greatest (latencies_of t ns)
  pub percentiles : ArePercentiles (latencies_of t ns) x.lengths

-- the waits and wake-to-run latencies of the tasks of a group and of groups below it, in a run with
-- these notes that ends at that clock
pub record AreOfGroup (w : WorkloadState) (g clock : ℕ) (ns : List Note) (x : GroupWaits) : Type 0
  where
    pub waits : x.waits.count ≡ at_most_64_bits (length (waits_of_group w g clock ns))
    pub longest : x.waits.longest ≡ greatest (waits_of_group w g clock ns)
    pub percentiles : ArePercentiles (waits_of_group w g clock ns) x.waits
    pub latencies : x.latencies.count ≡ at_most_64_bits (length (latencies_of_group w g ns))
    pub longest_latency : x.latencies.longest ≡ greatest (latencies_of_group w g ns)
    pub latency_percentiles : ArePercentiles (latencies_of_group w g ns) x.latencies

-- the figures of a processor in a run from that state through these events: its ticks, busy or idle
pub record IsOfCpu (c : ℕ) (s : SimState) (es : List Event) (x : CpuFigures) : Type 0 where
  pub busy : x.busy ≡ at_most_64_bits (busy_in c s es)
  pub idle : x.idle ≡ at_most_64_bits (idle_in c s es)

-- all tasks sleep before a run
abbrev pub all_asleep : WorkloadState → List Doing
all_asleep w = replicate (length w.homes) Sleeps

-- the figures of the run from that state through these events
pub record AreOfRun (w : WorkloadState) (s : SimState) (es : List Event) (f : RunFigures)
    : Type 0 where
  pub all_tasks : length f.tasks ≡ length w.homes
  pub all_cpus : length f.cpus ≡ w.cpus
  pub of_task : (t : ℕ) → t < length w.homes → t < length (stepped_all s es).state.world.tasks
      → IsOfTask t (stepped_all s es).state.world (notes_of_all s es) (figures_at f.tasks t)
  pub of_bursts : (t : ℕ) → t < length w.homes
      → IsOfBursts t s es (notes_of_all s es) (bursts_at f.bursts t)
  pub of_latencies : (t : ℕ) → t < length w.homes
      → AreLatencies t (notes_of_all s es) (latencies_at f.latencies t)
  pub all_groups : length f.groups ≡ length w.groups
  pub of_group : (g : ℕ) → g < length w.groups
      → length w.homes ≤ length (stepped_all s es).state.world.tasks
      → AreOfGroup w g (stepped_all s es).state.world.clock (notes_of_all s es)
      (waits_at f.groups g)
  pub of_cpu : (c : ℕ) → c < w.cpus → IsOfCpu c s es (cpu_at f.cpus c)
  pub of_loss : (c : ℕ) → c < w.cpus
      → lost_at f.lost c ≡ at_most_64_bits (lost_in c (all_asleep w) s es)
  pub anywhere : f.anywhere ≡ at_most_64_bits (lost_anywhere_in (all_asleep w) s es)
  pub ejected : f.ejected ≡ (stepped_all s es).state.world.ejected

-- the figures of the run of the two texts, of which the second is a workload or a file of events
pub record AreOfTexts (policy scenario : List ℕ) (f : Figures) : Type 0 where
  pub x : Scenario
  pub first : SimState
  pub run : IsScenarioRun policy scenario x first
  pub workload : f.workload ≡ workload_of x
  pub all_there :
      length (stepped_all first (scenario_events x first)).state.world.tasks
      ≡ length (workload_of x).homes
  pub of_run : AreOfRun (workload_of x) first (scenario_events x first) (of_figures f)
  pub named : name_in policy ≡ Ok (string_bytes f.policy_name)

-- the figures of the run of a policy's text and a file of events
pub record AreOfEvents (policy events : List ℕ) (f : Figures) : Type 0 where
  pub r : ReplayState
  pub first : SimState
  pub run : IsReplayRun policy events r first
  pub workload : f.workload ≡ r.workload
  pub all_there :
      length (stepped_all first (replay_events r)).state.world.tasks ≡ length r.workload.homes
  pub of_run : AreOfRun r.workload first (replay_events r) (of_figures f)
  pub named : name_in policy ≡ Ok (string_bytes f.policy_name)
