-- Sums of 128 bits.
use Rattle.std.proofs.Common.{◌≡◌, ℕ, ℤ, ◌+ℤ◌, FitsSigned, refl}
use Rattle.std.proofs.lemmas.Int.{to_z-of_z}
use Rattle.scx_verify_explain.specs.declared.places.Memory.{Memory}
use Rattle.scx_verify_explain.specs.declared.places.Place.{Place}
use Rattle.std.specs.Int.{w128, cast_signed, cast_unsigned}

-- a sum of two 128-bit numbers that fits is computed without a wrap
pub added : (a b : ℤ) → FitsSigned w128 a → FitsSigned w128 b → FitsSigned w128 (a +ℤ b)
    → cast_signed w128 (cast_unsigned w128 (cast_signed w128 (cast_unsigned w128 a) +ℤ cast_signed w128 (cast_unsigned w128 b))) ≡ a +ℤ b
added a b fa fb fs = rw (to_z-of_z w128 a fa, to_z-of_z w128 b fb) (to_z-of_z w128 (a +ℤ b) fs)

-- places with the same bounds and the same shift are the same
pub same_place : (m : Memory) (f g t u : ℤ) (s r : ℕ) → f ≡ g → t ≡ u → s ≡ r
    → ◌≡◌ {A = Place} (record { memory = m; from = f; to = t; shift = s }) (record { memory = m; from = g; to = u; shift = r })
same_place m f g t u s r a b c = rw (a, b, c) refl
