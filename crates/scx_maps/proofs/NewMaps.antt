-- New maps: their parts beside the elements are of the kinds of the shapes, and have a slot for each
-- element.
use Rattle.std.proofs.Common.{◌≡◌, ℕ, zero, suc, Bool, true, false, List, [], ◌∷◌, length, map, Option, None, if◌then◌else◌, refl, sym, ◌∙◌}
use Rattle.std.specs.Prelude.{replicate}
use Rattle.std.proofs.lemmas.List.{length-replicate}
use Rattle.scx_isa_semantics.specs.declared.map_kinds.MapKind.{MapKind}
use Rattle.scx_isa_semantics.specs.declared.map_kinds.MapKind.TheVariants as kind
use Rattle.scx_isa_semantics.specs.Directories.{kind_of, new_directory}
use Rattle.scx_maps.specs.declared.shape.Shape.{Shape}
use Rattle.scx_maps.specs.Slots.{slots}
use Rattle.scx_maps.specs.Contents.{zero_contents, directory_of, are_arrays, new_directories, kinds}
use Rattle.scx_maps.specs.Keeping.{HasSlots, HaveSlots}

-- a new part is of its map's kind
pub new_kind : (k : MapKind) (n : ℕ) → kind_of (new_directory k n) ≡ k
new_kind kind.Array n = refl
new_kind kind.PerCpu n = refl
new_kind (kind.Hash z) n = refl
new_kind kind.Queue n = refl
new_kind kind.Stack n = refl

kinds_made : (shapes : List Shape) → map kind_of (map directory_of shapes) ≡ map (λ (s : Shape). s.kind) shapes
kinds_made [] = refl
kinds_made (s ∷ shapes) =
    let head = new_kind s.kind (slots s) in
    let tail = kinds_made shapes in
    λ i. head i ∷ tail i

-- new parts are of the kinds of the shapes
pub new_kinds : (shapes : List Shape) → map kind_of (new_directories shapes) ≡ kinds shapes
new_kinds shapes = go (are_arrays shapes)
  where
    go : (b : Bool) → map kind_of (if b then [] else map directory_of shapes) ≡ (if b then [] else map (λ (s : Shape). s.kind) shapes)
    go true = refl
    go false = kinds_made shapes

new_has_slots : (k : MapKind) (n m : ℕ) → n ≡ m → HasSlots (new_directory k n) m
new_has_slots kind.Array n m e = tt
new_has_slots kind.PerCpu n m e = tt
new_has_slots (kind.Hash z) n m e = length-replicate {A = Option ℕ} n None ∙ e
new_has_slots kind.Queue n m e = tt
new_has_slots kind.Stack n m e = tt

slots_made : (shapes : List Shape) → HaveSlots (map directory_of shapes) (zero_contents shapes)
slots_made [] m = tt
slots_made (s ∷ shapes) zero = new_has_slots s.kind (slots s) (length (replicate (slots s) (replicate s.value_size 0))) (sym (length-replicate (slots s) (replicate s.value_size 0)))
slots_made (s ∷ shapes) (suc m) = slots_made shapes m

-- they have a slot for each element
pub new_slots : (shapes : List Shape) → HaveSlots (new_directories shapes) (zero_contents shapes)
new_slots shapes = go (are_arrays shapes)
  where
    go : (b : Bool) → HaveSlots (if b then [] else map directory_of shapes) (zero_contents shapes)
    go true m = tt
    go false m = slots_made shapes m
