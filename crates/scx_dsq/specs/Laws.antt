-- What holds of the queues after any calls: a task waits in a queue that was created, those in one
-- queue are of one sort, and no two entries have the same stamp. Then in how many queues a task
-- waits, and how calls change that, and what a push to the front changes.
use Rattle.std.specs.Prelude.{◌≡◌, ◌≢◌, ℕ, ◌+◌, ◌<◌, ◌≤◌, Bool, ◌==◌, length, Some, None, is_some, IsSome, IsTrue, AllPairs, count_by, if◌then◌else◌}
use Rattle.scx_dsq.specs.declared.entries.Rank.{Rank}
use Rattle.scx_dsq.specs.declared.entries.Rank.TheVariants.{Front}
use Rattle.scx_dsq.specs.declared.entries.Entry.{Entry}
use Rattle.scx_dsq.specs.Entries.{same_sort}
use Rattle.scx_dsq.specs.Queues.{QueueState, exists, task_count, entry_of, is_in, IsFront, front_of}
use Rattle.scx_dsq.specs.Calls.{after_create, push_refusal, after_push, after_remove, after_pop}

-- no two queues have one id, and there are no more than there is room for
pub record HasOneOfEach (s : QueueState) : Type 0 where
  pub distinct : AllPairs (λ id other. id ≢ other) s.ids
  pub within : length s.ids ≤ s.room

-- each task waits in a queue that is there
abbrev pub WaitsInAQueue : QueueState → Type 0
WaitsInAQueue s = (t : ℕ) (p : Entry) → entry_of s t ≡ Some p → IsTrue (exists s p.queue)

-- the tasks in one queue are of one sort
abbrev pub HasOneSort : QueueState → Type 0
HasOneSort s =
    (t u : ℕ) (p q : Entry)
    → entry_of s t ≡ Some p → entry_of s u ≡ Some q → p.queue ≡ q.queue
    → IsTrue (same_sort p.rank q.rank)

-- a stamp is the number of an accepted push
abbrev pub IsStamped : QueueState → Type 0
IsStamped s = (t : ℕ) (p : Entry) → entry_of s t ≡ Some p → p.stamp < s.pushes

-- and each push has its own
abbrev pub HasOwnStamps : QueueState → Type 0
HasOwnStamps s =
    (t u : ℕ) (p q : Entry)
    → t ≢ u → entry_of s t ≡ Some p → entry_of s u ≡ Some q → p.stamp ≢ q.stamp

-- all that holds of the queues after any calls
pub record IsSound (s : QueueState) : Type 0 where
  pub queues : HasOneOfEach s
  pub homes : WaitsInAQueue s
  pub sorts : HasOneSort s
  pub stamped : IsStamped s
  pub stamps : HasOwnStamps s

-- ---- in how many queues a task waits

-- 1 where it is so, else 0
abbrev pub one_if : Bool → ℕ
one_if b = if b then 1 else 0

-- one if it has an entry, else none
abbrev pub standing : QueueState → ℕ → ℕ
standing s t = one_if (is_some (entry_of s t))

-- that is the number of the queues, of all that there are, in which it waits
abbrev pub StandsInSoMany : QueueState → Type 0
StandsInSoMany s = (t : ℕ) → count_by (λ id. is_in id (entry_of s t)) s.ids ≡ standing s t

-- an accepted push adds one for its task, and none for others
abbrev pub PushAddsOne : Type 0
PushAddsOne =
    (s : QueueState) (id t u : ℕ) (rank : Rank) → t < task_count s → push_refusal s id t rank ≡ None
    → standing (after_push s id t rank) u ≡ standing s u + one_if (u == t)

-- a pop takes one of the front, and none of others
abbrev pub PopTakesOne : Type 0
PopTakesOne =
    (s : QueueState) (id t u : ℕ)
    → front_of s id ≡ Some t → standing (after_pop s id) u + one_if (u == t) ≡ standing s u

-- the removal of a task that waits takes one of it, and none of others
abbrev pub RemovalTakesOne : Type 0
RemovalTakesOne =
    (s : QueueState) (t u : ℕ)
    → IsSome (entry_of s t) → standing (after_remove s t) u + one_if (u == t) ≡ standing s u

-- what is refused, a pop of nobody and the removal of a task that doesn't wait change nothing, nor
-- does a new queue change where tasks wait
pub record OthersChangeNone : Type 0 where
  pub refused : (s : QueueState) (id t : ℕ) (rank : Rank)
      → IsSome (push_refusal s id t rank) → after_push s id t rank ≡ s
  pub nobody : (s : QueueState) (id : ℕ) → front_of s id ≡ None → after_pop s id ≡ s
  pub absent : (s : QueueState) (t : ℕ) → entry_of s t ≡ None → after_remove s t ≡ s
  pub queue : (s : QueueState) (id t : ℕ) → standing (after_create s id) t ≡ standing s t

-- a queue has one front
abbrev pub HasOneFront : Type 0
HasOneFront = (s : QueueState) (id t u : ℕ) → IsFront s id t → IsFront s id u → t ≡ u

-- who is before all others there is the front that is computed
abbrev pub FrontIsFirst : Type 0
FrontIsFirst = (s : QueueState) (id t : ℕ) → IsFront s id t → front_of s id ≡ Some t

-- ---- pushes to the front

-- the task of an accepted push to the front is the front
abbrev pub FrontPushLeads : Type 0
FrontPushLeads =
    (s : QueueState) (id t : ℕ)
    → t < task_count s → IsStamped s → push_refusal s id t Front ≡ None
    → front_of (after_push s id t Front) id ≡ Some t

-- all others wait as before, so their order is as it was
abbrev pub FrontPushMovesNone : Type 0
FrontPushMovesNone =
    (s : QueueState) (id t u : ℕ) → u ≢ t → entry_of (after_push s id t Front) u ≡ entry_of s u

-- a pop takes the task out again, and leaves all but the number of pushes as it was
abbrev pub PopUndoesFrontPush : Type 0
PopUndoesFrontPush =
    (s : QueueState) (id t : ℕ)
    → t < task_count s → IsStamped s → push_refusal s id t Front ≡ None
    → after_pop (after_push s id t Front) id ≡ record s { pushes = s.pushes + 1 }
