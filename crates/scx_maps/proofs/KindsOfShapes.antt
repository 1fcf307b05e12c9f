-- The kinds of maps are those that their shapes say.
use Rattle.std.proofs.Common.{◌≡◌, ℕ, zero, suc, Bool, true, false, List, [], ◌∷◌, map, drop, get_or, if◌then◌else◌, refl, ap, sym, ◌∙◌}
use Rattle.std.proofs.lemmas.Bool.{and_parts}
use Rattle.scx_isa_semantics.specs.declared.map_kinds.MapKind.{MapKind}
use Rattle.scx_isa_semantics.specs.declared.map_kinds.MapKind.TheVariants as kind
use Rattle.scx_isa_semantics.specs.Directories.{Directory, Array, kind_of}
use Rattle.scx_isa_semantics.specs.Elements.{Maps, directory}
use Rattle.scx_maps.specs.declared.shape.Shape.{Shape}
use Rattle.scx_maps.specs.Contents.{is_array, are_arrays, HasShapes}
use Rattle.scx_maps.specs.Layout.{shape_at}
use Rattle.scx_maps.specs.SameShapes.{Decides-same_kind}

array_kind : (shapes : List Shape) (m : ℕ) → are_arrays shapes ≡ true → (shape_at shapes m).kind ≡ kind.Array
array_kind [] m e = refl
array_kind (s ∷ shapes) zero e = (Decides-same_kind s.kind kind.Array).0 (and_parts (is_array s) (are_arrays shapes) e).0
array_kind (s ∷ shapes) (suc m) e = array_kind shapes m (and_parts (is_array s) (are_arrays shapes) e).1

none_kind : (parts : List Directory) (m : ℕ) → ◌≡◌ {A = List MapKind} (map kind_of parts) [] → kind_of (get_or parts m Array) ≡ kind.Array
none_kind [] m e = refl
none_kind (d ∷ parts) m e = absurd (cc)

each_kind : (parts : List Directory) (shapes : List Shape) (m : ℕ) → map kind_of parts ≡ map (λ (s : Shape). s.kind) shapes → kind_of (get_or parts m Array) ≡ (shape_at shapes m).kind
each_kind [] [] m e = refl
each_kind [] (s ∷ shapes) m e = absurd (cc)
each_kind (d ∷ parts) [] m e = absurd (cc)
each_kind (d ∷ parts) (s ∷ shapes) zero e = ap (λ (ks : List MapKind). get_or ks 0 kind.Array) e
each_kind (d ∷ parts) (s ∷ shapes) (suc m) e = each_kind parts shapes m (ap (λ (ks : List MapKind). drop 1 ks) e)

-- a map is of the kind of its shape
pub kind-shaped : (shapes : List Shape) (maps : Maps) (m : ℕ) → HasShapes shapes maps → kind_of (directory maps m) ≡ (shape_at shapes m).kind
kind-shaped shapes maps m shaped = go (are_arrays shapes) refl shaped.kinds
  where
    go : (b : Bool) → are_arrays shapes ≡ b → map kind_of maps.directories ≡ (if b then [] else map (λ (s : Shape). s.kind) shapes) → kind_of (directory maps m) ≡ (shape_at shapes m).kind
    go true e f = none_kind maps.directories m f ∙ sym (array_kind shapes m e)
    go false e f = each_kind maps.directories shapes m f
