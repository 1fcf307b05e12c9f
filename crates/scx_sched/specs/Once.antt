-- In how many places a task appears: on processors and in queues. Between two events a
-- runnable task appears once, and a sleeping one nowhere; inside an event the task at hand
-- may be in neither place.
use Rattle.std.specs.Prelude.{◌≡◌, ℕ, ◌+◌, ◌<◌, Bool, true, false, ◌==◌, ◌||◌, nat_lt, List, length, Option, Some, None, slice_index_or, sum_by, if◌then◌else◌}
use Rattle.scx_dsq.specs.Queues.{QueueState, exists, task_count, entry_of, queue_of}
use Rattle.scx_dsq.specs.Calls.{clashes}
use Rattle.scx_dsq.specs.Entries.{same_sort}
use Rattle.scx_dsq.specs.declared.entries.Entry.{Entry}
use Rattle.scx_dsq.specs.declared.entries.Rank.{Rank}
use Rattle.scx_dsq.specs.declared.entries.Rank.TheVariants.{Fifo, Front, Vtime}
use Rattle.scx_dsq.specs.Laws.{one_if, standing, IsStamped}
use Rattle.scx_sched_world.specs.declared.call.Insert.{Insert}
use Rattle.scx_sched_world.specs.declared.timers.Alarm.{Alarm}
use Rattle.scx_sched_world.specs.Ids.{policy_end, global, held_queue, builtin_queue, parked_queue, local_on}
use Rattle.scx_sched_world.specs.World.{WorldState, is_by_linux, task_at, is_this, is_runnable}
use Rattle.scx_sched_world.specs.Tasks.{queue_for}
use Rattle.scx_sched_world.specs.Helpers.{is_dispatch}
use Rattle.scx_sched.specs.Waits.{HasWaits}

-- on how many processors it runs
abbrev pub runs : List (Option ℕ) → ℕ → ℕ
runs cpus t = sum_by (λ o. one_if (is_this t o)) cpus

-- on how many processors and in how many queues a task is, added up
abbrev pub appearances : WorldState → ℕ → ℕ
appearances w t = runs w.cpus t + standing w.queues t

-- the queue in which a task is is there
abbrev pub AreInQueues : WorldState → Type 0
AreInQueues w = (t q : ℕ) → queue_of w.queues t ≡ Some q → exists w.queues q ≡ true

-- the task at hand, if there is one, is in neither place; each other one where it should be
abbrev pub IsOnce : Option ℕ → WorldState → Type 0
IsOnce hand w = (t : ℕ) → appearances w t + one_if (is_this t hand) ≡ one_if (is_runnable w t)

-- the machine's own queues are there
pub record HasQueues (s : QueueState) (cpus : ℕ) : Type 0 where
  pub global : exists s global ≡ true
  pub held : exists s held_queue ≡ true
  pub builtin : exists s builtin_queue ≡ true
  pub parked : exists s parked_queue ≡ true
  pub locals : (c : ℕ) → c < cpus → exists s (local_on c) ≡ true

-- of the machine's own queues the built-in one is by time, the others in order of arrival
abbrev pub sort_of : ℕ → Rank
sort_of q = if q == builtin_queue then Vtime 0 else Fifo

-- a queue of the policy takes tasks of either sort
abbrev pub fits_queue : ℕ → Rank → Bool
fits_queue q r = nat_lt q policy_end || same_sort r (sort_of q)

-- whether an entry is of a sort that its queue takes; true where there is no entry
abbrev pub fits_sort : Option Entry → Bool
fits_sort None = true
fits_sort (Some p) = fits_queue p.queue p.rank

-- each task that is in a queue is there by a rank that its queue takes
abbrev pub IsSorted : QueueState → Type 0
IsSorted s = (t : ℕ) → fits_sort (entry_of s t) ≡ true

-- nobody waits in the queue who was put there in the other way
abbrev pub IsAlike : QueueState → ℕ → Rank → Type 0
IsAlike s q r = (t : ℕ) → clashes q r (entry_of s t) ≡ false

-- there is such a queue, and it takes a task so
pub record IsOpen (s : QueueState) (q : ℕ) (r : Rank) : Type 0 where
  pub there : exists s q ≡ true
  pub fits : fits_queue q r ≡ true
  pub alike : IsAlike s q r

-- where the callback wants its task to go, for each processor that LOCAL may mean; to
-- no parked ones
abbrev pub GoesSomewhere : QueueState → ℕ → Option Insert → Type 0
GoesSomewhere s cpus None = Unit {0}
GoesSomewhere s cpus (Some i) =
    (c : ℕ)
    → c < cpus
    → IsOpen s (queue_for c i.queue) i.rank × ((queue_for c i.queue == parked_queue) ≡ false)

-- an insert that doesn't go to the front of its queue
abbrev pub IsBehind : Rank → Type 0
IsBehind r = r ≡ Front → ⊥

-- where the callback wants its task to go, if it said so, it doesn't go to the front
abbrev pub GoesBehind : Option Insert → Type 0
GoesBehind None = Unit {0}
GoesBehind (Some i) = IsBehind i.rank

-- the callback's processor is one of that many; so are one from which a task is woken, and
-- those on which timers that were started are to run
pub record AreThere (cpus at : ℕ) (waker : Option ℕ) (timers : List (Option Alarm)) : Type 0 where
  pub hand : at < cpus
  pub wakes : (c : ℕ) → waker ≡ Some c → c < cpus
  pub timed : (n : ℕ) (a : Alarm) → slice_index_or timers n None ≡ Some a → a.cpu < cpus

-- what holds of a world of that many tasks with these on its processors, and that task in no place
pub record IsSound (hand : Option ℕ) (on : List (Option ℕ)) (n : ℕ) (w : WorldState) : Type 0 where
  pub cpus : w.cpus ≡ on
  pub tasks : length w.tasks ≡ n
  pub even : task_count w.queues ≡ n
  pub flags : length w.tree.active ≡ n
  pub members : length w.tree.homes ≡ n
  pub homes : (t : ℕ) → (task_at w t).prev_cpu < length on
  pub queues : HasQueues w.queues (length on)
  pub sorted : IsSorted w.queues
  pub stamped : IsStamped w.queues
  pub once : IsOnce hand w
  pub here : AreThere (length on) w.call.cpu w.passing.waker w.timers
  pub goes : GoesSomewhere w.queues (length on) w.call.insert
  pub not_first : is_by_linux w ≡ false → GoesBehind w.call.insert
  pub waiting : HasWaits hand w
  pub at_once : is_dispatch w.call.callback ≡ true → w.call.insert ≡ None
