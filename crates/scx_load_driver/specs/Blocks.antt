-- The blocks of events of a millisecond, each fixed by the state in which it begins, and what is
-- remembered from one block to the next.
use Rattle.std.specs.Prelude.{ℕ, zero, suc, ◌+◌, ◌-◌, ◌*◌, Bool, true, not, ◌&&◌, ◌==◌, nat_lt, nat_le, List, [], ◌∷◌, ◌++◌, length, slice_index, slice_set, is_some, if◌then◌else◌}
use Rattle.scx_sched_world.specs.World.{WorldState, task_at, is_runnable, is_by_linux, cpu_of}
use Rattle.scx_sched_world.specs.Tasks.{tick_ns}
use Rattle.scx_sched_machine.specs.declared.events.Event.{Event}
use Rattle.scx_sched_machine.specs.declared.events.Event.TheVariants as event
use Rattle.scx_load_workloads.specs.declared.workload.Timing.{Timing}
use Rattle.scx_load_workloads.specs.declared.workload.Weighed.{Weighed}
use Rattle.scx_load_workloads.specs.declared.workload.Weighed.TheVariants as which
use Rattle.scx_load_workloads.specs.declared.workload.Change.{Change}
use Rattle.scx_load_workloads.specs.Workload.{timing_at, change_at}

-- what is planned
pub record Plan : Type 0 where
  pub cpus : ℕ
  pub timings : List Timing
  pub changes : List Change

-- what is remembered
pub record Memory : Type 0 where
  pub due : List ℕ  -- the millisecond at which each task wakes
  pub ran : List ℕ  -- how long each task had run when it woke last, in nanoseconds

-- the blocks of a millisecond
pub data Block : Type 0 where
  Changes : ℕ → Block
  Wakes : ℕ → Block
  Ticks : Block
  Sleeps : ℕ → Block
  Clock : Block

-- ---- lists by a test

-- the events of the numbers below a bound that pass the test
abbrev pub events_below : ℕ → (ℕ → Bool) → (ℕ → Event) → List Event
events_below zero test event = []
events_below (suc n) test event = events_below n test event ++ (if test n then event n ∷ [] else [])

-- a list with new values at the numbers below a bound that pass the test
abbrev pub set_below : {A : Type 0} → ℕ → (ℕ → Bool) → (ℕ → A) → List A → List A
set_below zero test value xs = xs
set_below (suc n) test value xs =
    if test n then slice_set (set_below n test value xs) n (value n) else set_below n test value xs

-- ---- tests

-- whether the change at that index of the list is due in that millisecond
abbrev pub is_at : List Change → ℕ → ℕ → Bool
is_at changes m i = (change_at changes i).at == m

-- the task sleeps, and wakes now
abbrev pub is_due : List ℕ → ℕ → WorldState → ℕ → Bool
is_due due m w t = not (is_runnable w t) && (slice_index due t == m)

-- the task is runnable, and has run as long as it runs at once, or longer; one that runs 0 at once
-- never sleeps
abbrev pub has_run_enough : List Timing → List ℕ → WorldState → ℕ → Bool
has_run_enough timings ran w t =
    is_runnable w t
    && (nat_lt 0 (timing_at timings t).run
    && nat_le (tick_ns * (timing_at timings t).run) ((task_at w t).run_ns - slice_index ran t))

-- whether only a task that runs on a processor goes to sleep: under Linux rules, where a process
-- sleeps by a system call of its own; under plain rules one that waits does too
abbrev pub only_runners_sleep : WorldState → Bool
only_runners_sleep w = is_by_linux w

-- the rules let the task go to sleep where it is
abbrev pub may_sleep : WorldState → ℕ → Bool
may_sleep w t = if only_runners_sleep w then is_some (cpu_of w t) else true

-- the task has run enough, and may go to sleep
abbrev pub goes_to_sleep : List Timing → List ℕ → WorldState → ℕ → Bool
goes_to_sleep timings ran w t = has_run_enough timings ran w t && may_sleep w t

-- ---- blocks

-- a group or a task gets that weight
abbrev pub weighing : Weighed → ℕ → Event
weighing (which.Group g) x = event.SetWeight g x
weighing (which.Task t) x = event.SetTaskWeight t x

-- the event of a change of a weight
abbrev pub change_event : Change → Event
change_event c = weighing c.weighed c.weight

-- the changes of weights of that millisecond, in the order of the file
abbrev pub changes_at : List Change → ℕ → List Event
changes_at changes m =
    events_below (length changes) (is_at changes m) (λ i. change_event (change_at changes i))

-- the tasks that sleep and are due in that millisecond wake, by number
abbrev pub wakes_at : List ℕ → ℕ → WorldState → List Event
wakes_at due m w = events_below (length due) (is_due due m w) event.Wake

-- a tick of each processor, by number
abbrev pub ticks_of : ℕ → List Event
ticks_of cpus = events_below cpus (λ c. true) event.Tick

-- the tasks that have run enough since they woke last, and may, go to sleep, by number
abbrev pub sleeps_at : List Timing → List ℕ → WorldState → List Event
sleeps_at timings ran w = events_below (length timings) (goes_to_sleep timings ran w) event.Sleep

-- the events of a block that begins in that world, by what is planned and remembered
abbrev pub block_events : Plan → Block → Memory → WorldState → List Event
block_events p (Changes m) k w = changes_at p.changes m
block_events p (Wakes m) k w = wakes_at k.due m w
block_events p Ticks k w = ticks_of p.cpus
block_events p (Sleeps m) k w = sleeps_at p.timings k.ran w
block_events p Clock k w = event.Clock ∷ []

-- a task that wakes has run so long as it wakes
abbrev pub ran_after : List ℕ → List ℕ → ℕ → WorldState → List ℕ
ran_after due ran m w = set_below (length due) (is_due due m w) (λ t. (task_at w t).run_ns) ran

-- a task that goes to sleep at m wakes once its sleep is over
abbrev pub due_after : List Timing → List ℕ → List ℕ → ℕ → WorldState → List ℕ
due_after timings due ran m w =
    set_below (length timings) (goes_to_sleep timings ran w)
    (λ t. m + 1 + (timing_at timings t).sleep) due

-- what is remembered after a block that begins in that state
abbrev pub memory_after : Plan → Block → Memory → WorldState → Memory
memory_after p (Changes m) k w = k
memory_after p (Wakes m) k w = record { due = k.due; ran = ran_after k.due k.ran m w }
memory_after p Ticks k w = k
memory_after p (Sleeps m) k w = record { due = due_after p.timings k.due k.ran m w; ran = k.ran }
memory_after p Clock k w = k
