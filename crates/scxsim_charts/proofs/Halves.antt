-- Tasks that didn't run for half of the time of a character.
use Rattle.std.proofs.Common.{◌≡◌, ℕ, zero, ◌+◌, ◌-◌, ◌<◌, ◌≤◌, ◌⊎◌, ◌^◌, inl, inr, refl, subst, add-one, arith}
use Rattle.std.proofs.lemmas.Bool.{cases_lt}
use Rattle.std.specs.Prelude.{min}
use Rattle.scxsim_charts.specs.Marks.{IsHalf, NoneAtHalf, all_ran}

-- none of no tasks
pub none_at_first : (ran : ℕ → ℕ) (length : ℕ) → NoneAtHalf zero ran length
none_at_first ran length t below = absurd (omega (arith, below))

-- no task below a number, and not that of the number
pub none_more : (tasks : ℕ) (ran : ℕ → ℕ) (length : ℕ)
    → NoneAtHalf tasks ran length → ¬ IsHalf (ran tasks) length → NoneAtHalf (tasks + 1) ran length
none_more tasks ran length none here t below = by_order (cases_lt t tasks)
  where
    by_order : (t < tasks) ⊎ (tasks ≤ t) → ¬ IsHalf (ran t) length
    by_order (inl less) = none t less
    by_order (inr more) = subst (λ k. ¬ IsHalf (ran k) length) (omega (arith, below, more)) here

-- the time of one task more
pub all_more : (tasks : ℕ) (ran : ℕ → ℕ)
    → all_ran (tasks + 1) ran ≡ min (all_ran tasks ran + ran tasks) (2 ^ 64 - 1)
all_more tasks ran = rw add-one refl
