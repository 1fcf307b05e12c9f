-- The bytes of all maps, and their shapes, as the block has them.
use Rattle.std.proofs.Common.{◌≡◌, ℕ, List, map, ap, sym, ◌∙◌, arith}
use Rattle.std.proofs.lemmas.List.{take_all}
use Rattle.scx_maps.specs.declared.shape.Shape.{Shape}
use Rattle.scx_maps.specs.Slots.{laid}
use Rattle.scx_maps.specs.Limits.{total_bytes}
use Rattle.scx_isa_semantics.specs.Elements.{Contents}
use Rattle.scx_maps.specs.Layout.{contents_in, IsBlockOf}
use Rattle.scx_maps.specs.Lending.{shapes_in, bytes_of}
use Rattle.scx_maps.proofs.Blocks.{bytes_of-contents_in, shapes_in-contents_in}

-- all bytes of the maps are the block
pub all_shown : (shapes : List Shape) (block : List ℕ) (maps : Contents) → IsBlockOf shapes block → contents_in shapes block ≡ maps → bytes_of maps ≡ block
all_shown shapes block maps holds is =
    ap bytes_of (sym is) ∙ bytes_of-contents_in shapes block ∙ take_all (total_bytes shapes) block (omega (arith, holds.full))

-- and their shapes are those of the layout, as arrays
pub shapes_shown : (shapes : List Shape) (block : List ℕ) (maps : Contents) → IsBlockOf shapes block → contents_in shapes block ≡ maps → shapes_in maps ≡ map laid shapes
shapes_shown shapes block maps holds is =
    ap shapes_in (sym is) ∙ shapes_in-contents_in shapes block holds.limits.each (omega (arith, holds.full))
