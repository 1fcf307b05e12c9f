-- Calls of dispatch, one after another.
use Rattle.std.proofs.Common.{arith, ◌≡◌, ℕ, zero, suc, ◌-◌, ◌<◌, Option, true, false, refl, sub-one}
use Rattle.scx_sched_machine.specs.Steps.{State, stays, one_after_other}
use Rattle.scx_sched_machine.specs.Cycle.{tries, after_dispatch, asks_again}

-- no try is left
pub tries_none : (n c : ℕ) (s : State) (p : Option ℕ) → n ≡ 0 → tries n s c p ≡ stays s
unfolding tries
tries_none zero c s p e = refl
tries_none (suc n) c s p e = absurd (omega (arith, e))

-- a try after which there is another
pub tries_again : (n c : ℕ) (s : State) (p : Option ℕ) → 0 < n → asks_again (after_dispatch s c p).state c p ≡ true → tries n s c p ≡ one_after_other (after_dispatch s c p) (tries (n - 1) (after_dispatch s c p).state c p)
unfolding tries
tries_again zero c s p l e = absurd (omega (arith, l))
tries_again (suc n) c s p l e = rw (e, sub-one) refl

-- a try after which there is none
pub tries_last : (n c : ℕ) (s : State) (p : Option ℕ) → 0 < n → asks_again (after_dispatch s c p).state c p ≡ false → tries n s c p ≡ after_dispatch s c p
unfolding tries
tries_last zero c s p l e = absurd (omega (arith, l))
tries_last (suc n) c s p l e = rw e refl

pub ruleset tries_steps = (tries_none, tries_again, tries_last)
