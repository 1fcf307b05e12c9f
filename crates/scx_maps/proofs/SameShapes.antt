-- Maps whose elements have the same lengths have the same shapes.
use Rattle.std.proofs.Common.{◌≡◌, ℕ, List, [], ◌∷◌, map, length, get_or, refl, sym, ap, ◌∙◌}
use Rattle.std.proofs.lemmas.List.{length-map}
use Rattle.scx_isa_semantics.specs.declared.map_kinds.MapKind.TheVariants.{Array}
use Rattle.scx_maps.specs.declared.shape.Shape.{Shape}
use Rattle.scx_isa_semantics.specs.Elements.{Contents}
use Rattle.scx_maps.specs.Contents.{lengths, lengths_in}
use Rattle.scx_maps.specs.Lending.{shape_of, shapes_in}

-- the shape of a map whose elements have so many bytes each
abbrev shape_by : List ℕ → Shape
shape_by sizes = record { entries = length sizes; value_size = get_or sizes 0 0; kind = Array }

shape_by_lengths : (entries : List (List ℕ)) → shape_of entries ≡ shape_by (lengths entries)
shape_by_lengths [] = refl
shape_by_lengths (v ∷ vs) =
    ap (λ n. record { entries = n; value_size = length v; kind = Array }) (sym (length-map (v ∷ vs) (λ (x : List ℕ). length x)))

shapes_by_lengths : (maps : Contents) → shapes_in maps ≡ map shape_by (lengths_in maps)
shapes_by_lengths [] = refl
shapes_by_lengths (entries ∷ maps) =
    let first = shape_by_lengths entries in
    let others = shapes_by_lengths maps in
    λ i. first i ∷ others i

-- where the lengths are the same, so are the shapes
pub same_shapes : (a b : Contents) → lengths_in a ≡ lengths_in b → shapes_in a ≡ shapes_in b
same_shapes a b same = shapes_by_lengths a ∙ ap (λ sizes. map shape_by sizes) same ∙ sym (shapes_by_lengths b)
