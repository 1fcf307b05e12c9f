-- The lowest processor that is to look for work, found by a look at each.
use Rattle.std.proofs.Common.{◌≡◌, ℕ, zero, suc, ◌<◌, true, false, ◌⊎◌, inl, inr, Some, None, refl, arith}
use Rattle.std.proofs.lemmas.Bool.{cases_eq}
use Rattle.scx_sched_world.specs.World.{WorldState, this_if, or_this}
use Rattle.scx_sched_world.specs.Pending.{is_pending, pending_below}

-- none so far
pub none_pending : (n : ℕ) (w : WorldState) → ((k : ℕ) → k < n → is_pending w k ≡ false) → pending_below n w ≡ None
unfolding pending_below
none_pending zero w all = refl
none_pending (suc n) w all = rw (none_pending n w (λ k l. all k (omega (arith, l))), all n (omega arith)) refl

-- the first that is
pub one_pending : (n i : ℕ) (w : WorldState) → i < n → is_pending w i ≡ true → ((k : ℕ) → k < i → is_pending w k ≡ false) → pending_below n w ≡ Some i
unfolding pending_below
one_pending zero i w l here all = absurd (omega (arith, l))
one_pending (suc n) i w l here all = go (cases_eq i n) (λ d. one_pending n i w (omega (arith, l, d)) here all)
  where
    go : (i ≡ n) ⊎ (i ≡ n → ⊥) → ((i ≡ n → ⊥) → pending_below n w ≡ Some i) → or_this (pending_below n w) (this_if (is_pending w n) n) ≡ Some i
    go (inl e) f = rw (← e, none_pending i w all, here) refl
    go (inr d) f = rw (f d) refl
