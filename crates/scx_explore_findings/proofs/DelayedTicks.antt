-- Whole ticks later, the clock is as far past a tick.
use Rattle.std.proofs.Common.{◌≡◌, ℕ, ◌+◌, ◌%◌, ◌==◌, ◌||◌, Bool, true, false, cond, refl, sym, ap, ◌∙◌, arith}
use Rattle.std.proofs.Math.Nat.{mod-add-mod}
use Rattle.scx_explore_states.specs.Written.{past_tick}

swapped : (n k : ℕ) → n + k ≡ k + n
swapped n k = omega arith

none_more : (a n : ℕ) → a ≡ 0 → a + n ≡ n
none_more a n e = omega (arith, e)

one_more : (n k : ℕ) → n + 1 + k ≡ n + k + 1
one_more n k = omega arith

-- how far it is past one
pub past_as : (tick n k : ℕ) → past_tick tick k ≡ 0 → past_tick tick (n + k) ≡ past_tick tick n
past_as tick n k e = go (tick == 0) e
  where
    go : (b : Bool) → cond b 0 (k % tick) ≡ 0 → cond b 0 ((n + k) % tick) ≡ cond b 0 (n % tick)
    go true x = refl
    go false x = ap (λ (m : ℕ). m % tick) (swapped n k) ∙ sym (mod-add-mod k tick n) ∙ ap (λ (m : ℕ). m % tick) (none_more (k % tick) n x)

-- the next millisecond ends with a tick, or neither does
pub ends_as : (tick n k : ℕ) → past_tick tick k ≡ 0 → ((tick == 0) || ((n + 1) % tick == 0)) ≡ ((tick == 0) || ((n + k + 1) % tick == 0))
ends_as tick n k e = go (tick == 0) (past_as tick (n + 1) k e)
  where
    go : (b : Bool) → cond b 0 ((n + 1 + k) % tick) ≡ cond b 0 ((n + 1) % tick) → (b || ((n + 1) % tick == 0)) ≡ (b || ((n + k + 1) % tick == 0))
    go true x = refl
    go false x = ap (λ (m : ℕ). m == 0) (sym x) ∙ ap (λ (m : ℕ). m % tick == 0) (one_more n k)
