-- The notes of a run tell of a task whether it is runnable, where it runs or waits, and since
-- when it waits. A reader of a trace keeps no more than that.
use Rattle.std.specs.Prelude.{◌≡◌, ℕ, ◌+◌, ◌*◌, Bool, true, false, ◌==◌, List, [], ◌∷◌, ◌++◌, Option, Some, None, if◌then◌else◌}
use Rattle.scx_dsq.specs.Queues.{queue_of}
use Rattle.scx_dsq.specs.Laws.{one_if}
use Rattle.scx_weights.specs.Hierarchy.{Hierarchy}
use Rattle.scx_sched_world.specs.declared.notes.Note.{Note}
use Rattle.scx_sched_world.specs.declared.notes.What.{What}
use Rattle.scx_sched_world.specs.declared.notes.What.TheVariants.{Wake, Sleep, Insert, Move, Run, Stop}
use Rattle.scx_sched_world.specs.Ids.{parked_queue, local_on}
use Rattle.scx_sched_world.specs.World.{WorldState, task_at, is_runnable, is_this, or_this, cpu_of}
use Rattle.scx_sched_world.specs.Tasks.{tick_ns}
use Rattle.scx_sched_machine.specs.declared.events.Event.{Event}
use Rattle.scx_sched_machine.specs.declared.events.Event.TheVariants.{Tick}
use Rattle.scx_sched_machine.specs.declared.events.Refused.{Refused}
use Rattle.scx_sched_policy.specs.Policy.{PolicyState}
use Rattle.scx_sched.specs.Sim.{SimState, refusal, after_event, notes_of}
use Rattle.scx_laws.specs.Runs.{IsBegun, after_events}

-- whether a task is runnable, the CPU on which it runs, the queue in which it waits or is parked,
-- and the clock since which it waits
pub record Told : Type 0 where
  pub runnable : Bool
  pub cpu : Option ℕ
  pub queue : Option ℕ
  pub since : Option ℕ

-- so it is of a task of this world
abbrev pub tell : WorldState → ℕ → Told
tell w t = record {
  runnable = is_runnable w t;
  cpu = cpu_of w t;
  queue = queue_of w.queues t;
  since = (task_at w t).since;
}

-- and of a task that sleeps
abbrev pub asleep : Told
asleep = record { runnable = false; cpu = None; queue = None; since = None }

-- ---- by the notes

-- the task that wakes, comes to a queue, runs, stops or sleeps
abbrev pub moved_by : What → Option ℕ
moved_by (Wake t) = Some t
moved_by (Insert t q) = Some t
moved_by (Move t c) = Some t
moved_by (Run t c) = Some t
moved_by (Stop t c) = Some t
moved_by (Sleep t) = Some t
moved_by x = None

-- Since when a task waits that comes to that queue: a parked one doesn't, and one that was let go
-- waits from now on.
abbrev pub since_in : ℕ → ℕ → Option ℕ → Option ℕ
since_in q now since = if q == parked_queue then None else or_this since (Some now)

-- since when a task waits that is stopped: from now on, unless it goes to sleep
abbrev pub since_stop : Bool → ℕ → Option ℕ
since_stop runnable now = if runnable then Some now else None

-- what is told of that task once this was noted
abbrev pub told_of : What → ℕ → Told → Told
told_of (Wake t) now x = record x { runnable = true; since = Some now }
told_of (Insert t q) now x = record x { queue = Some q; since = since_in q now x.since }
told_of (Move t c) now x = record x { queue = Some (local_on c) }
told_of (Run t c) now x = record x { cpu = Some c; queue = None; since = None }
told_of (Stop t c) now x = record x { cpu = None; since = since_stop x.runnable now }
told_of (Sleep t) now x = record x { runnable = false; queue = None; since = None }
told_of w now x = x

-- what is told of a task after one note more; of another task it tells nothing
abbrev pub told_by : Note → ℕ → Told → Told
told_by n t x = if is_this t (moved_by n.what) then told_of n.what n.clock x else x

-- and after several, in their order
abbrev pub told : List Note → ℕ → Told → Told
told [] t x = x
told (n ∷ ns) t x = told ns t (told_by n t x)

-- ---- runs

-- the notes of these events
abbrev pub notes_of_events : SimState → List Event → List Note
notes_of_events s [] = []
notes_of_events s (e ∷ es) = notes_of s e ++ notes_of_events (after_event s e) es

-- in every machine, after every list of events: of each task, the notes tell just what is so
abbrev pub NotesTellTheState : Type 0
NotesTellTheState =
    (p : PolicyState) (tree : Hierarchy) (cpus : ℕ) (s : SimState) (events : List Event) (t : ℕ)
    → IsBegun p tree cpus s
    → told (notes_of_events s events) t asleep ≡ tell (after_events s events).state.world t

-- 1 where an accepted event is a tick of the CPU on which, by what is told, the task runs; else 0
abbrev pub ticked_by : Option Refused → Event → Told → ℕ
ticked_by None (Tick c) x = one_if (is_this c x.cpu)
ticked_by o e x = 0

-- of these events, how many are accepted ticks of the CPU on which the notes so far have the task
abbrev pub told_ticks : SimState → List Event → ℕ → Told → ℕ
told_ticks s [] t x = 0
told_ticks s (e ∷ es) t x =
    ticked_by (refusal s e) e x + told_ticks (after_event s e) es t (told (notes_of s e) t x)

-- and its run time is a millisecond for each of these ticks
abbrev pub NotesTellRunTimes : Type 0
NotesTellRunTimes =
    (p : PolicyState) (tree : Hierarchy) (cpus : ℕ) (s : SimState) (events : List Event) (t : ℕ)
    → IsBegun p tree cpus s
    → (task_at (after_events s events).state.world t).run_ns
    ≡ tick_ns * told_ticks s events t asleep
