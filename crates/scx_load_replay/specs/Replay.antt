-- A file of events: a workload's CPUs, groups and tasks, and lines of events.
use Rattle.std.specs.Prelude.{◌≡◌, ℕ, ◌<◌, ◌≤◌, ◌==◌, ◌&&◌, ◌||◌, nat_lt, Bool, true, false, List, [], ◌∷◌, length, replicate, slice_index_or, slice_set}
use Rattle.scx_sched_machine.specs.declared.events.Event.{Event}
use Rattle.scx_sched_machine.specs.declared.events.Event.TheVariants as event
use Rattle.scx_load_workloads.specs.Workload.{WorkloadState, IsWorkload}
use Rattle.scx_load_replay.specs.declared.lines.Line.{Line}

-- the content of a file of events
pub record ReplayState : Type 0 where
  pub workload : WorkloadState
  pub lines : List Line

-- the most lines of a file that say an event
abbrev pub max_lines : ℕ
max_lines = 65536

-- ---- the lines that may follow

-- the block of its millisecond to which an event belongs: weights, then wakes, then, after the
-- ticks, sleeps
abbrev pub block_of : Event → ℕ
block_of (event.SetWeight g x) = 0
block_of (event.SetTaskWeight t x) = 0
block_of (event.Wake t) = 1
block_of (event.Sleep t) = 2
block_of (event.Tick c) = 3
block_of event.Clock = 3

-- an event of this millisecond and block comes before that of another
abbrev pub comes_before : ℕ → ℕ → ℕ → ℕ → Bool
comes_before at block other other_block =
    nat_lt at other || ((at == other) && nat_lt block other_block)

-- the task is awake; one that isn't there sleeps
abbrev pub is_awake : List Bool → ℕ → Bool
is_awake awake t = slice_index_or awake t false

-- the tasks that are awake after an event
abbrev pub awake_after : List Bool → Event → List Bool
awake_after awake (event.Wake t) = slice_set awake t true
awake_after awake (event.Sleep t) = slice_set awake t false
awake_after awake (event.SetWeight g x) = awake
awake_after awake (event.SetTaskWeight t x) = awake
awake_after awake (event.Tick c) = awake
awake_after awake event.Clock = awake

-- a line may come: its event is of a task that sleeps and wakes, or is awake and goes to sleep,
-- or of a group or a task and a weight in its limits
abbrev pub Fits : WorkloadState → List Bool → Event → Type 0
Fits w awake (event.Wake t) = (t < length w.homes) × (is_awake awake t ≡ false)
Fits w awake (event.Sleep t) = (t < length w.homes) × (is_awake awake t ≡ true)
Fits w awake (event.SetWeight g x) = (g < length w.groups) × (1 ≤ x) × (x ≤ 10000)
Fits w awake (event.SetTaskWeight t x) = (t < length w.homes) × (1 ≤ x) × (x ≤ 10000)
Fits w awake (event.Tick c) = ⊥
Fits w awake event.Clock = ⊥

-- lines after an event of that millisecond and block, with these tasks awake: each comes before
-- the end of the run, none before the line above it, and the event of each fits
abbrev pub Follow : WorkloadState → ℕ → ℕ → List Bool → List Line → Type 0
Follow w at block awake [] = Unit {0}
Follow w at block awake (l ∷ ls) =
    (l.at < w.ms) × (comes_before l.at (block_of l.event) at block ≡ false) × Fits w awake l.event
    × Follow w l.at (block_of l.event) (awake_after awake l.event) ls

-- before the first line all tasks sleep
abbrev pub all_asleep : WorkloadState → List Bool
all_asleep w = replicate (length w.homes) false

-- every file of events is whole
pub record IsReplay (r : ReplayState) : Type 0 where
  pub workload : IsWorkload r.workload
  pub few_lines : length r.lines ≤ max_lines
  pub follow : Follow r.workload 0 0 (all_asleep r.workload) r.lines
