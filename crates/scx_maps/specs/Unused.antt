-- At most sixteen shapes in an array of sixteen: those past the last one are unused.
use Rattle.std.specs.Prelude.{◌≡◌, ℕ, ◌-◌, List, ◌++◌, length, take, replicate}
use Rattle.scx_isa_semantics.specs.declared.map_kinds.MapKind.TheVariants.{Array}
use Rattle.scx_maps.specs.declared.shape.Shape.{Shape}
use Rattle.scx_maps.specs.declared.defs.TheConstants.{MAX_MAPS}
use Rattle.scx_maps.specs.Limits.{AreWithinLimits}

-- the shape of no map: it has no entry, and no map may have it
abbrev pub unused_shape : Shape
unused_shape = record { entries = 0; value_size = 0; kind = Array }

-- the shapes of a policy's maps followed by unused ones, sixteen in all
abbrev pub filled_up : List Shape → List Shape
filled_up shapes = shapes ++ replicate (MAX_MAPS - length shapes) unused_shape

-- the sixteen begin with the shapes of `count` maps, within the limits, and the rest is unused
pub record IsFilledUp (padded : List Shape) (count : ℕ) : Type 0 where
  pub held : length (take count padded) ≡ count
  pub unused : filled_up (take count padded) ≡ padded
  pub limits : AreWithinLimits (take count padded)
