-- No push of the machine is refused: in a world that is as it should be each queue takes the task
-- that the machine gives it.
use Rattle.std.specs.Prelude.{◌≡◌, ℕ, ◌<◌, true, List, length, Option, Some, None}
use Rattle.scx_dsq.specs.Queues.{queue_of}
use Rattle.scx_dsq.specs.Calls.{push_refusal, after_remove}
use Rattle.scx_dsq.specs.declared.entries.Rank.TheVariants.{Fifo, Vtime}
use Rattle.scx_isa_semantics.specs.declared.callbacks.Callback.TheVariants as callback
use Rattle.scx_sched_world.specs.declared.call.Insert.{Insert}
use Rattle.scx_sched_world.specs.Ids.{local_on, builtin_queue, parked_queue}
use Rattle.scx_sched_world.specs.World.{WorldState, waits}
use Rattle.scx_sched_world.specs.Tasks.{queue_for, rank_by}
use Rattle.scx_sched_world.specs.Helpers.{is_dispatch, insert_fault}
use Rattle.scx_sched_world.specs.Ejecting.{builtin_vtime}
use Rattle.scx_sched.specs.Kept.{IsWanted}
use Rattle.scx_sched.specs.Ranges.{IsFine}

-- with that many tasks, events and charges, each push is accepted that is made where all is fine
pub record IsPushAccepted (n e m : ℕ) : Type 0 where
  -- of a task that is put
  pub put : (on : List (Option ℕ)) (w : WorldState) (t : ℕ) (i : Insert)
      → t < n → IsWanted (length on) w i → IsFine n e m (Some t) on w
      → push_refusal w.queues i.queue t (rank_by w i.rank) ≡ None
  -- of a task that is put under the built-in scheduler
  pub put_builtin : (on : List (Option ℕ)) (w : WorldState) (t : ℕ)
      → t < n → IsFine n e m (Some t) on w
      → push_refusal w.queues builtin_queue t (Vtime (builtin_vtime w t)) ≡ None
  -- of a task that is parked
  pub park : (on : List (Option ℕ)) (w : WorldState) (t : ℕ)
      → t < n → IsFine n e m (Some t) on w → push_refusal w.queues parked_queue t Fifo ≡ None
  -- of a task that goes over
  pub evict : (hand : Option ℕ) (on : List (Option ℕ)) (w : WorldState) (t : ℕ)
      → waits w t ≡ true → IsFine n e m hand on w
      → push_refusal (after_remove w.queues t) builtin_queue t (Vtime (builtin_vtime w t)) ≡ None
  -- of a task of a queue, to the local queue of a processor
  pub fill : (on : List (Option ℕ)) (w : WorldState) (q c t : ℕ)
      → c < length on → queue_of w.queues t ≡ Some q → IsFine n e m None on w
      → push_refusal (after_remove w.queues t) (local_on c) t Fifo ≡ None
  -- of a task of a queue, to the local queue of the processor at hand
  pub move : (hand : Option ℕ) (on : List (Option ℕ)) (w : WorldState) (q t : ℕ)
      → queue_of w.queues t ≡ Some q → IsFine n e m hand on w
      → push_refusal (after_remove w.queues t) (local_on w.call.cpu) t Fifo ≡ None
  -- of a held task, while dispatch runs
  pub release : (hand : Option ℕ) (on : List (Option ℕ)) (w : WorldState) (t : ℕ)
      (i : Insert) (flags : ℕ)
      → is_dispatch w.call.callback ≡ true → insert_fault w (Some t) i flags ≡ None
      → IsFine n e m hand on w
      → push_refusal (after_remove w.queues t) (queue_for w.call.cpu i.queue) t (rank_by w i.rank)
      ≡ None
