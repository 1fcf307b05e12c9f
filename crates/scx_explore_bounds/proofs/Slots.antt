-- Tests over the numbers below a bound.
use Rattle.std.proofs.Common.{ℕ, zero, suc, ◌+◌, ◌<◌, ◌≡◌, Bool, true, false, sym, ap, ◌∙◌, arith, ⊎_elim}
use Rattle.std.proofs.lemmas.Bool.{cases_eq, or_left, or_right, or_from}
use Rattle.scx_explore_bounds.specs.Uses.{any_below}

-- one that passes
pub any_below_at : (n k : ℕ) (test : ℕ → Bool) → k < n → test k ≡ true → any_below n test ≡ true
any_below_at zero k test lt pass = absurd (omega arith)
any_below_at (suc n) k test lt pass =
    ⊎_elim (λ (e : k ≡ n). or_right (any_below n test) (test n) (ap test (sym e) ∙ pass))
    (λ (e : k ≡ n → ⊥). or_left (any_below n test) (test n) (any_below_at n k test (omega arith) pass))
    (cases_eq k n)

-- one more number is looked at
pub none_below_more : (n : ℕ) (test : ℕ → Bool) → any_below n test ≡ false → test n ≡ false → any_below (n + 1) test ≡ false
none_below_more n test none here =
    let next : n + 1 ≡ suc n = omega arith in
    rw next (or_from (any_below n test) (test n) none here)
