-- Processors that look for work, one after another.
use Rattle.std.proofs.Common.{arith, ◌≡◌, ℕ, zero, suc, ◌-◌, ◌<◌, Some, None, refl, sub-one}
use Rattle.scx_sched_machine.specs.Steps.{State, stays, one_after_other}
use Rattle.scx_sched_machine.specs.Rounds.{next_to_look, round, rounds}

-- no round is left
pub rounds_none : (n : ℕ) (s : State) → n ≡ 0 → rounds n s ≡ stays s
unfolding rounds
rounds_none zero s e = refl
rounds_none (suc n) s e = absurd (omega (arith, e))

-- nobody is to look for work
pub rounds_last : (n : ℕ) (s : State) → next_to_look s ≡ None → rounds n s ≡ stays s
unfolding rounds
rounds_last zero s e = refl
rounds_last (suc n) s e = rw e refl

-- one processor looks, and then the others
pub rounds_more : (n c : ℕ) (s : State) → 0 < n → next_to_look s ≡ Some c → rounds n s ≡ one_after_other (round s c) (rounds (n - 1) (round s c).state)
unfolding rounds
rounds_more zero c s l e = absurd (omega (arith, l))
rounds_more (suc n) c s l e = rw (e, sub-one) refl

pub ruleset rounds_steps = (rounds_none, rounds_last, rounds_more)
