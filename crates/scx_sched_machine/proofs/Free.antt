-- Where no group has a quota nobody is parked.
use Rattle.std.proofs.Common.{arith, ◌≡◌, ℕ, zero, suc, ◌&&◌, Bool, true, false, cond, ltb, [], ◌++◌, length, Option, Some, None, refl, sym, ap, ◌∙◌}
use Rattle.std.proofs.lemmas.List.{length-set}
use Rattle.scx_dsq.specs.Queues.{len_of, front_of}
use Rattle.scx_dsq.specs.Calls.{after_push}
use Rattle.scx_dsq.specs.declared.entries.Rank.TheVariants.{Fifo}
use Rattle.scx_weights.specs.Limits as limits
use Rattle.scx_weights.specs.Limits.{has_quota}
use Rattle.scx_weights.proofs.KnownLimits.{none_throttled}
use Rattle.scx_sched_world.specs.Ids.{global, local_on}
use Rattle.scx_sched_world.specs.World.{WorldState, with_queues, is_by_linux, task_at, with_task, is_throttled}
use Rattle.scx_sched_world.specs.Tasks.{with_home, after_leave, homed, local_len, next_for, brought, fill_front, after_fill}
use Rattle.scx_sched_world.proofs.Empty.{empty_next}
use Rattle.scx_sched_machine.specs.Steps.{State, stays}
use Rattle.scx_sched_machine.specs.Filling.{move_note, fill}
use Rattle.scx_sched_machine.specs.Parking.{if_throttled, clear, in_reach, supply}
use Rattle.scx_sched_machine.proofs.Choices.{keeps_if}

-- ---- a local queue is filled, and no more

free_front : (w : WorldState) (o : Option ℕ) → ((t : ℕ) → is_throttled w t ≡ false) → if_throttled w o ≡ None
free_front w None free = refl
free_front w (Some t) free = rw (free t) refl

throttled_homed : (w : WorldState) (x c t : ℕ) → is_throttled (homed w x c) t ≡ is_throttled w t
throttled_homed w x c t =
    let y = with_home (task_at w x) c in
    keeps_if (λ (u : WorldState). is_throttled u t ≡ is_throttled w t) (is_by_linux w) (with_task w x y) w (ap (λ n. ltb t n && limits.is_throttled w.tree t) (length-set w.tasks x y)) refl

throttled_brought : (o : Option ℕ) (w : WorldState) (c t : ℕ) → is_throttled (brought o w c) t ≡ is_throttled w t
throttled_brought None w c t = refl
throttled_brought (Some x) w c t =
    let left = after_leave w x in
    throttled_homed (with_queues left (after_push left.queues (local_on c) x Fifo)) x c t

no_more : (o : Option ℕ) (w : WorldState) (c : ℕ) → move_note w o c ++ [] ≡ move_note w o c
no_more None w c = refl
no_more (Some t) w c = refl

nobody_comes : (b : Bool) (o : Option ℕ) → o ≡ None → cond b None o ≡ None
nobody_comes true o e = refl
nobody_comes false o e = e

fill_nobody : (s : State) (c : ℕ) → fill_front s.world global c ≡ None → fill s global c ≡ stays s
unfolding fill
fill_nobody s c e = rw e refl

-- nobody is throttled
pub free_tasks : (w : WorldState) → has_quota w.tree.groups ≡ false → (t : ℕ) → is_throttled w t ≡ false
free_tasks w none t = go (ltb t (length w.tasks))
  where
    go : (b : Bool) → (b && limits.is_throttled w.tree t) ≡ false
    go true = none_throttled w.tree t none
    go false = refl

-- where no group has a quota, a local queue is supplied by one fill from the global queue
pub supply_free : (s : State) (c : ℕ) → has_quota s.world.tree.groups ≡ false → supply s c ≡ fill s global c
unfolding supply clear fill
supply_free s c none = go (in_reach s c) refl
  where
    free : (t : ℕ) → is_throttled (after_fill s.world global c) t ≡ false
    free t = throttled_brought (fill_front s.world global c) s.world c t ∙ free_tasks s.world none t

    go : (n : ℕ) → in_reach s c ≡ n → clear n s c ≡ fill s global c
    go zero e =
        let empty : len_of s.world.queues global ≡ 0 = omega (arith, e) in
        sym (fill_nobody s c (nobody_comes (ltb 0 (local_len s.world c)) (next_for s.world global c) (empty_next s.world global c empty)))
    go (suc n) e =
        rw (free_front (after_fill s.world global c) (front_of (after_fill s.world global c).queues (local_on c)) free)
        (ap (λ notes. record { state = (fill s global c).state; notes = notes; calls = [] }) (no_more (fill_front s.world global c) s.world c))

-- and where that has no task that may run on the processor, nobody comes
pub supply_nobody : (s : State) (c : ℕ) → has_quota s.world.tree.groups ≡ false → next_for s.world global c ≡ None → supply s c ≡ stays s
supply_nobody s c none e = supply_free s c none ∙ fill_nobody s c (nobody_comes (ltb 0 (local_len s.world c)) (next_for s.world global c) e)
