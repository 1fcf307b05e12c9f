-- Whether one of the numbers below a bound passes a test.
use Rattle.std.proofs.Common.{◌≡◌, ℕ, zero, suc, ◌+◌, ◌<◌, ◌||◌, Bool, true, false, ◌⊎◌, inl, inr, refl, arith, add-one}
use Rattle.std.proofs.lemmas.Bool.{cases_eq}
use Rattle.scx_weights.specs.Counting.{any_below}

or_true : (b : Bool) → (b || true) ≡ true
or_true true = refl
or_true false = refl

-- one that passes
pub any_below_at : (n k : ℕ) (test : ℕ → Bool) → k < n → test k ≡ true → any_below n test ≡ true
any_below_at zero k test l e = absurd (omega (arith, l))
any_below_at (suc n) k test l e = go (cases_eq k n) (λ d. any_below_at n k test (omega (arith, l, d)) e)
  where
    go : (k ≡ n) ⊎ (k ≡ n → ⊥) → ((k ≡ n → ⊥) → any_below n test ≡ true) → (any_below n test || test n) ≡ true
    go (inl is) f = rw (← is, e) (or_true (any_below k test))
    go (inr d) f = rw (f d) refl

-- none so far, and not the next
pub none_below_next : (n : ℕ) (test : ℕ → Bool) → any_below n test ≡ false → test n ≡ false → any_below (n + 1) test ≡ false
none_below_next n test e f = rw (add-one, e, f) refl
