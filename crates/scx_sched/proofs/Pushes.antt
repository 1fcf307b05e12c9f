-- Each push that the machine makes is accepted.
use Rattle.std.proofs.Common.{arith, ◌≡◌, ℕ, ◌<◌, true, List, length, Option, Some, None, refl}
use Rattle.scx_dsq.specs.Queues.{QueueState, exists, entry_of, queue_of}
use Rattle.scx_dsq.proofs.Facts.{ids_removed}
use Rattle.scx_dsq.specs.Calls.{push_refusal, after_remove}
use Rattle.scx_dsq.specs.declared.entries.Rank.TheVariants.{Fifo, Vtime}
use Rattle.scx_sched_world.specs.Ids.{builtin_queue, parked_queue, local_on}
use Rattle.scx_sched_world.specs.World.{WorldState, waits}
use Rattle.scx_sched_world.specs.declared.call.Insert.{Insert}
use Rattle.scx_sched_world.specs.Tasks.{queue_for, rank_by}
use Rattle.scx_sched_world.specs.Helpers.{is_dispatch, insert_fault}
use Rattle.scx_sched.specs.Accepted.{IsPushAccepted}
use Rattle.scx_sched_world.specs.Ejecting.{builtin_vtime}
use Rattle.scx_sched.specs.Once.{IsSorted, IsSound}
use Rattle.scx_sched.proofs.Entering.{nowhere, own_open, is_accepted, sorted_removed, open_removed, open_by, local_sort, stay_removed}
use Rattle.scx_sched.proofs.Waiting.{waits_there}
use Rattle.scx_sched.proofs.Sound.{is_fit, fit_open, held_waits, held_in_dispatch, wanted_open, removed_place, waits_known, place_known}

-- in a sound world, the local queue of a processor takes a task of a queue
pub takes_queued : (hand : Option ℕ) (on : List (Option ℕ)) (n : ℕ) (w : WorldState) (q c t : ℕ) → c < length on → queue_of w.queues t ≡ Some q → IsSound hand on n w → push_refusal (after_remove w.queues t) (local_on c) t Fifo ≡ None
takes_queued hand on n w q c t l e h =
    let here = place_known w.queues q t e in
    is_accepted (after_remove w.queues t) t (local_on c) Fifo (removed_place w.queues t here.1 here.0)
    (own_open (after_remove w.queues t) (local_on c) Fifo (stay_removed w.queues t (local_on c) (h.queues.locals c l)) (omega arith) (local_sort c) (sorted_removed w.queues t h.sorted))

-- and in dispatch a held task may go where an insert without a fault wants it
pub takes_held : (hand : Option ℕ) (on : List (Option ℕ)) (n : ℕ) (w : WorldState) (t : ℕ) (i : Insert) (flags : ℕ) → is_dispatch w.call.callback ≡ true → insert_fault w (Some t) i flags ≡ None → IsSound hand on n w
    → push_refusal (after_remove w.queues t) (queue_for w.call.cpu i.queue) t (rank_by w i.rank) ≡ None
takes_held hand on n w t i flags x e h =
    let fit = is_fit w (Some t) i flags e in
    let here = held_waits w t (held_in_dispatch w (Some t) x fit.may) in
    is_accepted (after_remove w.queues t) t (queue_for w.call.cpu i.queue) (rank_by w i.rank) here.free (open_by w (after_remove w.queues t) (queue_for w.call.cpu i.queue) i.rank (open_removed w.queues t (queue_for w.call.cpu i.queue) i.rank (fit_open on hand n w (Some t) i w.call.cpu h.here.hand fit h)))

-- the built-in scheduler's queue takes whoever waits nowhere
takes_builtin : (s : QueueState) (t v : ℕ) → entry_of s t ≡ None → exists s builtin_queue ≡ true → IsSorted s → push_refusal s builtin_queue t (Vtime v) ≡ None
takes_builtin s t v free there sorted = is_accepted s t builtin_queue (Vtime v) free (own_open s builtin_queue (Vtime v) there (omega arith) refl sorted)

-- in a sound world, the built-in queue takes a task that goes over
pub takes_evicted : (hand : Option ℕ) (on : List (Option ℕ)) (n : ℕ) (w : WorldState) (t : ℕ) → waits w t ≡ true → IsSound hand on n w → push_refusal (after_remove w.queues t) builtin_queue t (Vtime (builtin_vtime w t)) ≡ None
takes_evicted hand on n w t waits-here h =
    let stands = waits_there w.queues t waits-here in
    takes_builtin (after_remove w.queues t) t (builtin_vtime w t) (removed_place w.queues t stands (waits_known w.queues t stands)) (rw (ids_removed w.queues t) h.queues.builtin) (sorted_removed w.queues t h.sorted)

-- the law
pub is_push_accepted : (n e m : ℕ) → IsPushAccepted n e m
is_push_accepted n e m = record {
  put = λ on w t i l x h. is_accepted w.queues t i.queue (rank_by w i.rank) (nowhere w t h.sound.once) (open_by w w.queues i.queue i.rank (wanted_open on n w i (Some t) x h.sound));
  fill = λ on w q c t l x h. takes_queued None on n w q c t l x h.sound;
  move = λ hand on w q t x h. takes_queued hand on n w q w.call.cpu t h.sound.here.hand x h.sound;
  put_builtin = λ on w t l h. takes_builtin w.queues t (builtin_vtime w t) (nowhere w t h.sound.once) h.sound.queues.builtin h.sound.sorted;
  park = λ on w t l h. is_accepted w.queues t parked_queue Fifo (nowhere w t h.sound.once) (own_open w.queues parked_queue Fifo h.sound.queues.parked (omega arith) refl h.sound.sorted);
  evict = λ hand on w t waits-here h. takes_evicted hand on n w t waits-here h.sound;
  release = λ hand on w t i flags x e h. takes_held hand on n w t i flags x e h.sound;
}
