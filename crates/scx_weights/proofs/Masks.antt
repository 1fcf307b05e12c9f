-- Which processors are in a mask.
use Rattle.std.proofs.Common.{◌≡◌, ℕ, false, ◌==◌, ◌/◌, ◌<◌, ◌≤◌, ◌^◌, refl}
use Rattle.std.specs.Int.{bit_at}
use Rattle.std.specs.Int.Bits.{bit_and}
use Rattle.std.proofs.lemmas.Nat.Bits.{shr_and_one, bit_at_above}

-- one that there is
pub has_here : (s c : ℕ) → (bit_and (s / 2 ^ c) 1 == 1) ≡ (bit_at s c == 1)
has_here s c = rw (shr_and_one s c) refl

-- and one past the last
pub has_past : (s c : ℕ) → s < 2 ^ 64 → 64 ≤ c → (bit_at s c == 1) ≡ false
has_past s c fits past = rw (bit_at_above s 64 c fits past) refl
