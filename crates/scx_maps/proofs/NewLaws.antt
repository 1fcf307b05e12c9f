-- New maps: their keys are sound, and their lines fit in.
use Rattle.std.proofs.Common.{◌≡◌, ℕ, zero, suc, ◌<◌, Bool, true, false, List, [], ◌∷◌, length, map, get_or, Option, None, if◌then◌else◌, sym, ◌∙◌, arith}
use Rattle.std.specs.Prelude.{replicate}
use Rattle.std.proofs.lemmas.List.{length-replicate}
use Rattle.scx_isa_semantics.specs.declared.map_kinds.MapKind.{MapKind}
use Rattle.scx_isa_semantics.specs.declared.map_kinds.MapKind.TheVariants as kind
use Rattle.scx_isa_semantics.specs.Directories.{Array, new_directory}
use Rattle.scx_isa_semantics.specs.Elements.{slots_in}
use Rattle.scx_maps.specs.declared.shape.Shape.{Shape}
use Rattle.scx_maps.specs.Slots.{slots}
use Rattle.scx_maps.specs.Contents.{zero_contents, directory_of, are_arrays}
use Rattle.scx_maps.specs.Laws.{IsSoundFor, FitsIn, NewAreSound, NewFit}
use Rattle.scx_maps.proofs.Sound.{new_sound}
use Rattle.scx_maps.proofs.Kept.{none_held}

-- the elements of a new map
abbrev blank : Shape → List (List ℕ)
blank s = replicate (slots s) (replicate s.value_size 0)

part_sound : (k : MapKind) (n m : ℕ) → n ≡ m → IsSoundFor m (new_directory k n)
part_sound kind.Array n m e = tt
part_sound kind.PerCpu n m e = tt
part_sound (kind.Hash z) n m e =
    record { long = length-replicate {A = Option ℕ} n None ∙ e; apart = λ s r k f g. absurd (none_held n s k f); sound = new_sound n }
part_sound kind.Queue n m e = tt
part_sound kind.Stack n m e = tt

parts_sound : (shapes : List Shape) (m : ℕ) → IsSoundFor (length (slots_in (zero_contents shapes) m)) (get_or (map directory_of shapes) m Array)
parts_sound [] m = tt
parts_sound (s ∷ shapes) zero = part_sound s.kind (slots s) (length (blank s)) (sym (length-replicate (slots s) (replicate s.value_size 0)))
parts_sound (s ∷ shapes) (suc m) = parts_sound shapes m

-- keys of new maps are sound
pub new_are_sound : NewAreSound
new_are_sound shapes m = go (are_arrays shapes)
  where
    go : (b : Bool) → IsSoundFor (length (slots_in (zero_contents shapes) m)) (get_or (if b then [] else map directory_of shapes) m Array)
    go true = tt
    go false = parts_sound shapes m

part_fits : (k : MapKind) (n m : ℕ) → 0 < m → FitsIn m (new_directory k n)
part_fits kind.Array n m some = tt
part_fits kind.PerCpu n m some = tt
part_fits (kind.Hash z) n m some = tt
part_fits kind.Queue n m some = (some, omega arith)
part_fits kind.Stack n m some = (some, omega arith)

parts_fit : (shapes : List Shape) (m : ℕ) → 0 < length (slots_in (zero_contents shapes) m) → FitsIn (length (slots_in (zero_contents shapes) m)) (get_or (map directory_of shapes) m Array)
parts_fit [] m some = tt
parts_fit (s ∷ shapes) zero some = part_fits s.kind (slots s) (length (blank s)) some
parts_fit (s ∷ shapes) (suc m) some = parts_fit shapes m some

-- lines of new maps fit in
pub new_fit : NewFit
new_fit shapes m some = go (are_arrays shapes)
  where
    go : (b : Bool) → FitsIn (length (slots_in (zero_contents shapes) m)) (get_or (if b then [] else map directory_of shapes) m Array)
    go true = tt
    go false = parts_fit shapes m some
