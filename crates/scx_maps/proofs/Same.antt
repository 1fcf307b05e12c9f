-- The test of two lists of shapes is a test whether they are equal.
use Rattle.std.proofs.Common.{◌≡◌, Bool, List}
use Rattle.std.specs.Bool.{Decides}
use Rattle.std.proofs.lemmas.Slice.Eq.{slice_eq-Decides}
use Rattle.scx_maps.specs.declared.shape.Shape.{Shape}
use Rattle.scx_maps.specs.Sameness.{same_shapes}
use Rattle.scx_maps.specs.SameShapes.{Decides-same_shape}

-- of two lists
pub Decides-same_shapes : (shapes others : List Shape) (r : Bool) → r ≡ same_shapes shapes others → Decides r (shapes ≡ others)
Decides-same_shapes shapes others r is = slice_eq-Decides Decides-same_shape shapes others r is
