-- Shapes in an array, and maps of zeros.
use Rattle.std.proofs.Common.{◌≡◌, ℕ, zero, suc, ◌-◌, ◌<◌, List, [], ◌∷◌, ◌++◌, length, take, map, get_or, refl, ap, sym, ◌∙◌, subst, arith}
use Rattle.std.specs.Prelude.{replicate, All}
use Rattle.std.proofs.lemmas.List.{take_at, length-replicate}
use Rattle.std.proofs.lemmas.List.Elements.{All-nil, All-replicate}
use Rattle.scx_maps.specs.declared.shape.Shape.{Shape}
use Rattle.scx_maps.specs.Slots.{slots}
use Rattle.scx_maps.specs.declared.defs.TheConstants.{MAX_MAPS}
use Rattle.scx_maps.specs.Limits.{AreWithinLimits}
use Rattle.scx_isa_semantics.specs.Elements.{AreOfBytes}
use Rattle.scx_maps.specs.Contents.{zero_contents, lengths_in, HaveShapes}
use Rattle.scx_maps.specs.Unused.{IsFilledUp, filled_up, unused_shape}

-- shapes with unused ones behind them fill the array
pub fills_up : (shapes self rest : List Shape) → self ≡ shapes → rest ≡ replicate (MAX_MAPS - length shapes) unused_shape → AreWithinLimits shapes
    → IsFilledUp (self ++ rest) (length shapes)
fills_up shapes self rest same unused limits =
    let front = ap (λ xs. take (length shapes) (xs ++ rest)) same ∙ take_at shapes rest (length shapes) refl in
    let whole : filled_up shapes ≡ self ++ rest = λ i. sym same i ++ sym unused i in
    let Limits : List Shape → Type 0 = λ xs. AreWithinLimits xs in
    record {
      held = ap (λ xs. length xs) front;
      unused = ap (λ xs. filled_up xs) front ∙ whole;
      limits = subst Limits (sym front) limits;
    }

-- elements of zeros are as long as they were made
pub lengths-replicate : (n size : ℕ) → map (λ (v : List ℕ). length v) (replicate n (replicate size 0)) ≡ replicate n size
lengths-replicate zero size = refl
lengths-replicate (suc n) size = let head = length-replicate size 0 in let tail = lengths-replicate n size in λ i. head i ∷ tail i

lengths_in-zeros : (shapes : List Shape) → lengths_in (zero_contents shapes) ≡ map (λ (s : Shape). replicate (slots s) s.value_size) shapes
lengths_in-zeros [] = refl
lengths_in-zeros (s ∷ shapes) = let head = lengths-replicate (slots s) s.value_size in let tail = lengths_in-zeros shapes in λ i. head i ∷ tail i

bytes-replicate : (n size index : ℕ) → All (λ b. b < 256) (get_or (replicate n (replicate size 0)) index [])
bytes-replicate zero size index = All-nil (λ b. b < 256)
bytes-replicate (suc n) size zero = All-replicate (λ b. b < 256) size 0 (omega arith)
bytes-replicate (suc n) size (suc index) = bytes-replicate n size index

AreOfBytes-zeros : (shapes : List Shape) → AreOfBytes (zero_contents shapes)
AreOfBytes-zeros [] m index = All-nil (λ b. b < 256)
AreOfBytes-zeros (s ∷ shapes) zero index = bytes-replicate (slots s) s.value_size index
AreOfBytes-zeros (s ∷ shapes) (suc m) index = AreOfBytes-zeros shapes m index

-- maps of zeros have their shapes
pub HasShapes-zeros : (shapes : List Shape) → HaveShapes shapes (zero_contents shapes)
HasShapes-zeros shapes = record { lengths = lengths_in-zeros shapes; bytes = AreOfBytes-zeros shapes }
