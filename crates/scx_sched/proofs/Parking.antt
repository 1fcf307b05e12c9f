-- The steps of parking keep what holds of a world inside an event.
use Rattle.std.proofs.Common.{◌≡◌, ℕ, ◌<◌, true, false, ◌==◌, ◌||◌, nat_lt, List, length, Option, Some, None, is_some, option_map, refl, sym, ◌∙◌, ap, arith}
use Rattle.std.proofs.lemmas.Bool.{eq-eqb, ne_eqb}
use Rattle.std.proofs.lemmas.List.{length-set}
use Rattle.scx_dsq.specs.declared.entries.Entry.{Entry}
use Rattle.scx_dsq.specs.declared.entries.Rank.TheVariants.{Fifo}
use Rattle.scx_dsq.specs.Queues.{QueueState, task_count, entry_of, queue_of}
use Rattle.scx_dsq.specs.Calls.{push_refusal, after_push, after_remove}
use Rattle.scx_dsq.proofs.Facts.{standing_removed, tasks_pushed, tasks_removed}
use Rattle.scx_weights.specs.Limits.{with_use}
use Rattle.scx_sched_world.specs.Ids.{parked_queue}
use Rattle.scx_sched_world.specs.World.{WorldState, with_tree, waits_in}
use Rattle.scx_sched_world.specs.Tasks.{put_parked, let_go, used_ms, begun_periods, after_leave}
use Rattle.scx_sched_machine.proofs.Choices.{keeps_if}
use Rattle.scx_sched.specs.Once.{IsSound}
use Rattle.scx_sched.proofs.Entering.{nowhere, own_open, is_accepted, sorted_pushed, sorted_removed, stamped_pushed, stamped_removed, stay_pushed, stay_removed, queues_stay, goes_on, open_own, open_removed}
use Rattle.scx_sched.proofs.Waiting.{pushed_here, pushed_other, removed_other, waiting_left, set_since, waits_sum, waits_by_sum, place_waits_here}
use Rattle.scx_sched.proofs.Sound.{inside, homes_set, once_pushed, removed_place, place_known}

module _ (on : List (Option ℕ)) (n : ℕ) where
  -- the task at hand is parked
  pub sound_put_parked : (w : WorldState) (t : ℕ) → t < n → IsSound (Some t) on n w → IsSound None on n (put_parked w t)
  sound_put_parked w t within h = rw (inside n w t within h.tasks) record {
    cpus = h.cpus;
    tasks = length-set w.tasks t _ ∙ h.tasks;
    even = tasks_pushed w.queues parked_queue t Fifo ∙ h.even;
    flags = h.flags;
    members = h.members;
    homes = homes_set w.tasks t _ (length on) (h.homes t) h.homes;
    queues = queues_stay w.queues s (length on) (stay_pushed w.queues parked_queue t Fifo) h.queues;
    sorted = sorted_pushed w.queues parked_queue t Fifo refl h.sorted;
    stamped = stamped_pushed w.queues parked_queue t Fifo h.stamped;
    once = once_pushed w t parked_queue Fifo known ok h.once;
    here = h.here;
    goes = goes_on w.queues s (length on) w.call.insert (λ x k o. open_own w.queues parked_queue t Fifo x k (omega arith) refl o) h.goes;
    not_first = h.not_first;
    waiting = set_since w s (Some t) None t _ (rw h.tasks within) (rw here refl) (λ u d. rw (ne_eqb u t d) (ap (λ (o : Option Entry). waits_in (option_map (λ p. p.queue) o) || false) (sym (pushed_other w.queues parked_queue t u Fifo d)))) h.waiting;
    at_once = h.at_once;
  }
    where
      s : QueueState
      s = after_push w.queues parked_queue t Fifo

      known : t < task_count w.queues
      known = rw h.even within

      ok : push_refusal w.queues parked_queue t Fifo ≡ None
      ok = is_accepted w.queues t parked_queue Fifo (nowhere w t h.once) (own_open w.queues parked_queue Fifo h.queues.parked (omega arith) refl h.sorted)

      here : queue_of s t ≡ Some parked_queue
      here = pushed_here w.queues parked_queue t Fifo known ok

  -- a task of another queue is at hand
  pub sound_leaves : (w : WorldState) (q t : ℕ) → queue_of w.queues t ≡ Some q → (q == parked_queue) ≡ false → IsSound None on n w → IsSound (Some t) on n (after_leave w t)
  sound_leaves w q t e apart h = record {
    cpus = h.cpus;
    tasks = h.tasks;
    even = tasks_removed w.queues t ∙ h.even;
    flags = h.flags;
    members = h.members;
    homes = h.homes;
    queues = queues_stay w.queues s (length on) (stay_removed w.queues t) h.queues;
    sorted = sorted_removed w.queues t h.sorted;
    stamped = stamped_removed w.queues t h.stamped;
    once = λ u. omega (arith, h.once u, standing_removed w.queues t u place.1);
    here = h.here;
    goes = goes_on w.queues s (length on) w.call.insert (λ x k o. open_removed w.queues t x k o) h.goes;
    not_first = h.not_first;
    waiting = waits_by_sum (Some t) (after_leave w t) (λ u. omega (arith, waits_sum None w h.once h.waiting u, waiting_left w.queues s t u (place_waits_here w.queues q t e apart) (removed_place w.queues t place.1 place.0) (λ k d. removed_other w.queues t k d)));
    at_once = h.at_once;
  }
    where
      s : QueueState
      s = after_remove w.queues t

      place : (t < task_count w.queues) × (is_some (entry_of w.queues t) ≡ true)
      place = place_known w.queues q t e

  -- a task that was parked is at hand
  pub sound_let_go : (w : WorldState) (t : ℕ) → t < n → queue_of w.queues t ≡ Some parked_queue → IsSound None on n w → IsSound (Some t) on n (let_go w t)
  sound_let_go w t within there h = record {
    cpus = h.cpus;
    tasks = length-set w.tasks t _ ∙ h.tasks;
    even = tasks_removed w.queues t ∙ h.even;
    flags = h.flags;
    members = h.members;
    homes = homes_set w.tasks t _ (length on) (h.homes t) h.homes;
    queues = queues_stay w.queues s (length on) (stay_removed w.queues t) h.queues;
    sorted = sorted_removed w.queues t h.sorted;
    stamped = stamped_removed w.queues t h.stamped;
    once = λ u. omega (arith, h.once u, standing_removed w.queues t u stands);
    here = h.here;
    goes = goes_on w.queues s (length on) w.call.insert (λ x k o. open_removed w.queues t x k o) h.goes;
    not_first = h.not_first;
    waiting = set_since w s None (Some t) t _ (rw h.tasks within) (rw (gone-now, eq-eqb t t refl) refl) (λ u d. rw (ne_eqb u t d) (ap (λ (o : Option Entry). waits_in (option_map (λ p. p.queue) o) || false) (sym (removed_other w.queues t u d)))) h.waiting;
    at_once = h.at_once;
  }
    where
      s : QueueState
      s = after_remove w.queues t

      stands : is_some (entry_of w.queues t) ≡ true
      stands = go (entry_of w.queues t) there
        where
          go : (o : Option Entry) → option_map (λ p. p.queue) o ≡ Some parked_queue → is_some o ≡ true
          go None x = absurd (cc)
          go (Some p) x = refl

      gone-now : entry_of s t ≡ None
      gone-now = removed_place w.queues t stands (rw h.even within)

-- a millisecond is used
pub sound_used_ms : (hand : Option ℕ) (on : List (Option ℕ)) (n : ℕ) (w : WorldState) (t : ℕ) → IsSound hand on n w → IsSound hand on n (used_ms w t)
sound_used_ms hand on n w t h =
    keeps_if (IsSound hand on n) (nat_lt t (length w.tasks)) (with_tree w (with_use w.tree t)) w
    (record { cpus = h.cpus; tasks = h.tasks; even = h.even; flags = h.flags; members = h.members; homes = h.homes; queues = h.queues; sorted = h.sorted; stamped = h.stamped; once = h.once; here = h.here; goes = h.goes; not_first = h.not_first; waiting = h.waiting; at_once = h.at_once }) h

-- and periods begin
pub sound_begun_periods : (hand : Option ℕ) (on : List (Option ℕ)) (n : ℕ) (w : WorldState) → IsSound hand on n w → IsSound hand on n (begun_periods w)
sound_begun_periods hand on n w h = record { cpus = h.cpus; tasks = h.tasks; even = h.even; flags = h.flags; members = h.members; homes = h.homes; queues = h.queues; sorted = h.sorted; stamped = h.stamped; once = h.once; here = h.here; goes = h.goes; not_first = h.not_first; waiting = h.waiting; at_once = h.at_once }
