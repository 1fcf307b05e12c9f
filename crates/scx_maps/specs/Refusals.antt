-- The limit that a list of shapes breaks: the number of maps first; then, of the first map that
-- breaks a limit, the entries before the value size; the bytes of all maps last.
use Rattle.std.specs.Prelude.{ℕ, ◌<◌, ◌≤◌, List, length, take, All, IsSomeAnd, slice_get}
use Rattle.scx_maps.specs.declared.shape.Shape.{Shape}
use Rattle.scx_maps.specs.declared.defs.TheConstants.{MAX_MAPS, MAX_BYTES}
use Rattle.scx_maps.specs.declared.bad_shape.BadShape.{BadShape}
use Rattle.scx_maps.specs.declared.bad_shape.BadShape.TheVariants.{TooManyMaps, Entries, ValueSize, TooLarge}
use Rattle.scx_maps.specs.Limits.{HasEntries, HasValueSize, IsWithinLimits, total_bytes}

-- as many entries as a map may have, of a size that a value may not have
pub record HasOnlyEntries (s : Shape) : Type 0 where
  pub entries : HasEntries s
  pub value_size : ¬ HasValueSize s

-- the first map that breaks a limit, and how
pub record IsFirstToBreak (Broken : Shape → Type 0) (shapes : List Shape) (m : ℕ) : Type 0 where
  pub count : length shapes ≤ MAX_MAPS
  pub before : All IsWithinLimits (take m shapes)
  pub broken : IsSomeAnd (slice_get shapes m) Broken

-- the maps are too large together, and break no other limit
pub record AreOnlyTooLarge (shapes : List Shape) : Type 0 where
  pub count : length shapes ≤ MAX_MAPS
  pub each : All IsWithinLimits shapes
  pub total : MAX_BYTES < total_bytes shapes

-- the shapes break that limit, and none that is judged before it
abbrev pub Breaks : List Shape → BadShape → Type 0
Breaks shapes TooManyMaps = MAX_MAPS < length shapes
Breaks shapes (Entries m) = IsFirstToBreak (λ s. ¬ HasEntries s) shapes m
Breaks shapes (ValueSize m) = IsFirstToBreak HasOnlyEntries shapes m
Breaks shapes TooLarge = AreOnlyTooLarge shapes
