-- What each call answers and what it leaves: refusals with the least number first, and a push, a
-- pop or a removal as a change of one task's entry.
use Rattle.std.specs.Prelude.{ℕ, Bool, false, not, ◌+◌, [], ◌∷◌, ◌++◌, ◌&&◌, replicate, length, slice_set, nat_le, Option, Some, None, is_some, is_none, Result, Ok, Err, if◌then◌else◌}
use Rattle.std.specs.List.{list_any}
use Rattle.scx_dsq.specs.declared.entries.Rank.{Rank}
use Rattle.scx_dsq.specs.declared.entries.Entry.{Entry}
use Rattle.scx_dsq.specs.declared.errors.QueueError.{QueueError}
use Rattle.scx_dsq.specs.declared.errors.QueueError.TheVariants.{NoSuchQueue, AlreadyThere, Mixed, TooManyQueues}
use Rattle.scx_dsq.specs.Entries.{same_sort}
use Rattle.scx_dsq.specs.Queues.{QueueState, exists, entry_of, is_in, front_of}

-- what a call answers: why it is refused, if it is
abbrev pub refused_or_done : Option QueueError → Result (Unit {0}) QueueError
refused_or_done None = Ok tt
refused_or_done (Some e) = Err e

-- ---- creating a queue

-- why a queue isn't created: it is there already, or else there is no room for another
abbrev pub create_refusal : QueueState → ℕ → Option QueueError
create_refusal s id =
    if exists s id then Some AlreadyThere
    else (if nat_le s.room (length s.ids) then Some TooManyQueues else None)

-- the state with another queue, the last of the ids
abbrev pub with_queue : QueueState → ℕ → QueueState
with_queue s id = record s { ids = s.ids ++ id ∷ [] }

-- the state after the call that creates a queue; as it was where that is refused
abbrev pub after_create : QueueState → ℕ → QueueState
after_create s id = if is_none (create_refusal s id) then with_queue s id else s

-- ---- pushing a task

-- whether an entry is one in the queue, of the other sort
abbrev pub clashes : ℕ → Rank → Option Entry → Bool
clashes id rank None = false
clashes id rank (Some p) = is_in id (Some p) && not (same_sort p.rank rank)

-- why a task isn't pushed: no such queue, it waits already, or tasks of the other sort wait there
abbrev pub push_refusal : QueueState → ℕ → ℕ → Rank → Option QueueError
push_refusal s id t rank =
    if not (exists s id) then Some NoSuchQueue
    else (if is_some (entry_of s t) then Some AlreadyThere
    else (if list_any (clashes id rank) s.entries then Some Mixed else None))

-- the entry that the next push gives
abbrev pub next_entry : QueueState → ℕ → Rank → Entry
next_entry s id rank = record { queue = id; rank = rank; stamp = s.pushes }

-- the task waits by the next entry, and all others as they did
abbrev pub with_task : QueueState → ℕ → ℕ → Rank → QueueState
with_task s id t rank = record s {
  entries = slice_set s.entries t (Some (next_entry s id rank));
  pushes = s.pushes + 1;
}

-- the state after the push of a task; as it was where that is refused
abbrev pub after_push : QueueState → ℕ → ℕ → Rank → QueueState
after_push s id t rank = if is_none (push_refusal s id t rank) then with_task s id t rank else s

-- ---- removing a task

-- the task waits nowhere, and all others as they did
abbrev pub without_task : QueueState → ℕ → QueueState
without_task s t = record s { entries = slice_set s.entries t None }

-- the state after the removal of a task; as it was where the task waits nowhere
abbrev pub after_remove : QueueState → ℕ → QueueState
after_remove s t = if is_some (entry_of s t) then without_task s t else s

-- the state without that task's entry, or as it was for none
abbrev pub without : QueueState → Option ℕ → QueueState
without s None = s
without s (Some t) = without_task s t

-- the state after a pop: the queue's front waits nowhere; as it was where there is no front
abbrev pub after_pop : QueueState → ℕ → QueueState
after_pop s id = without s (front_of s id)

-- ---- the first state

-- no queue yet, nobody waits
abbrev pub empty : ℕ → ℕ → QueueState
empty queues tasks = record { room = queues; ids = []; entries = replicate tasks None; pushes = 0 }
