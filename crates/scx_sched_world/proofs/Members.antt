-- Who is in a set of processors.
use Rattle.std.proofs.Common.{◌≡◌, ◌≢◌, ℕ, true, false, ◌==◌, ◌+◌, ◌-◌, ◌*◌, ◌%◌, ◌<◌, ◌≤◌, ◌^◌, min, ◌⊎◌, inl, inr, refl, ◌∙◌, ap, arith}
use Rattle.std.specs.Int.{w64, bit_at, bit_not}
use Rattle.std.specs.Int.Bits.{bit_or, bit_and, or_zero_r}
use Rattle.std.proofs.Math.Nat.{one-mul, mul-mod_left, zero-min}
use Rattle.std.proofs.lemmas.Bool.{cases_eq, cases_lt}
use Rattle.std.proofs.lemmas.Nat.{pow-add}
use Rattle.std.proofs.lemmas.Nat.Bits.{same_from_bits, bit_at_and, bit_at-lt, bit_at_above, bit_at_ones, bit_at_set_same, bit_at_set_other, bit_at_clear_same, bit_at_clear_other}

-- past the last bit nothing is set
shifted_out : (c : ℕ) → 64 ≤ c → 1 * 2 ^ c % 2 ^ 64 ≡ 0
shifted_out c past =
    let same : c ≡ c - 64 + 64 = omega (arith, past) in
    ap (λ n. 1 * 2 ^ n % 2 ^ 64) same
    ∙ ap (λ n. n % 2 ^ 64) (one-mul (2 ^ (c - 64 + 64)) ∙ pow-add 2 (c - 64) 64)
    ∙ mul-mod_left (2 ^ (c - 64)) (2 ^ 64)

-- ---- one more

-- past the last none comes in
pub and_past : (s c : ℕ) → 64 ≤ c → bit_or s (1 * 2 ^ c % 2 ^ 64) ≡ s
and_past s c past = rw (shifted_out c past) (or_zero_r s)

-- who came in is there
pub and_has : (s c : ℕ) → c < 64 → (bit_at (bit_or s (1 * 2 ^ c % 2 ^ 64)) c == 1) ≡ true
and_has s c l = rw (bit_at_set_same w64 s c l) refl

-- and the others as before
pub and_others : (s c k : ℕ) → c < 64 → k ≢ c → (bit_at (bit_or s (1 * 2 ^ c % 2 ^ 64)) k == 1) ≡ (bit_at s k == 1)
and_others s c k l d = ap (λ b. b == 1) (bit_at_set_other w64 s c l k d)

-- ---- one less

bit_of_both : (b : ℕ) → b < 2 → min b 1 ≡ b
bit_of_both b l = go (cases_eq b 1)
  where
    go : (b ≡ 1) ⊎ (b ≡ 1 → ⊥) → min b 1 ≡ b
    go (inl one) = rw one refl
    go (inr d) = let none : b ≡ 0 = omega (arith, l, d) in rw none refl

-- past the last none goes
pub but_past : (s c : ℕ) → s < 2 ^ 64 → 64 ≤ c → bit_and s (bit_not w64 (1 * 2 ^ c % 2 ^ 64)) ≡ s
but_past s c fits past = rw (shifted_out c past) (same_from_bits (bit_and s (2 ^ 64 - 1)) s (λ i. bit_at_and s (2 ^ 64 - 1) i ∙ go i (cases_lt i 64)))
  where
    go : (i : ℕ) → (i < 64) ⊎ (64 ≤ i) → min (bit_at s i) (bit_at (2 ^ 64 - 1) i) ≡ bit_at s i
    go i (inl l) = rw (bit_at_ones 64 i l) (bit_of_both (bit_at s i) (bit_at-lt s i))
    go i (inr far) = rw (bit_at_above s 64 i fits far) (zero-min (bit_at (2 ^ 64 - 1) i))

-- who went isn't there
pub but_lacks : (s c : ℕ) → c < 64 → (bit_at (bit_and s (bit_not w64 (1 * 2 ^ c % 2 ^ 64))) c == 1) ≡ false
but_lacks s c l = rw (bit_at_clear_same w64 s c l) refl

-- and the others as before
pub but_others : (s c k : ℕ) → s < 2 ^ 64 → c < 64 → k ≢ c → (bit_at (bit_and s (bit_not w64 (1 * 2 ^ c % 2 ^ 64))) k == 1) ≡ (bit_at s k == 1)
but_others s c k fits l d = ap (λ b. b == 1) (go (cases_lt k 64))
  where
    rest : ℕ
    rest = bit_not w64 (1 * 2 ^ c % 2 ^ 64)

    go : (k < 64) ⊎ (64 ≤ k) → bit_at (bit_and s rest) k ≡ bit_at s k
    go (inl m) = bit_at_clear_other w64 s c l k m d
    go (inr far) = bit_at_and s rest k ∙ rw (bit_at_above s 64 k fits far) (zero-min (bit_at rest k))
