-- The shape of a map that isn't there.
use Rattle.std.proofs.Common.{◌≡◌, ℕ, List, None, ap, sym, ◌∙◌}
use Rattle.std.specs.Prelude.{slice_get, unwrap_or}
use Rattle.std.proofs.lemmas.Option.{unwrap_or-slice_get}
use Rattle.scx_isa_semantics.specs.declared.map_kinds.MapKind.TheVariants as kind
use Rattle.scx_maps.specs.declared.shape.Shape.{Shape}
use Rattle.scx_maps.specs.Layout.{shape_at}
use Rattle.scx_maps.specs.Unused.{unused_shape}

-- it is unused
pub no_shape : (shapes : List Shape) (m : ℕ) → slice_get shapes m ≡ None → shape_at shapes m ≡ unused_shape
no_shape shapes m e = sym (unwrap_or-slice_get shapes m unused_shape) ∙ ap (λ o. unwrap_or o unused_shape) e

-- it is an array's
pub no_kind : (shapes : List Shape) (m : ℕ) → slice_get shapes m ≡ None → kind.Array ≡ (shape_at shapes m).kind
no_kind shapes m e = sym (ap (λ (s : Shape). s.kind) (no_shape shapes m e))
