-- Shapes of maps and their limits: a map has 1 to 65536 entries, each a value of 1 to 4096 bytes;
-- there are at most 16 maps, and their values take at most 16,777,216 bytes together.
use Rattle.std.specs.Prelude.{ℕ, ◌*◌, ◌≤◌, List, length, sum_by, All}
use Rattle.scx_maps.specs.declared.shape.Shape.{Shape}
use Rattle.scx_maps.specs.Slots.{slots}
use Rattle.scx_maps.specs.declared.shape.TheConstants.{MAX_ENTRIES, MAX_VALUE_SIZE}
use Rattle.scx_maps.specs.declared.defs.TheConstants.{MAX_MAPS, MAX_BYTES}

-- the size in bytes of the values of a map
abbrev pub byte_count : Shape → ℕ
byte_count s = slots s * s.value_size

-- the size in bytes of the values of all maps
abbrev pub total_bytes : List Shape → ℕ
total_bytes shapes = sum_by byte_count shapes

-- the map has 1 to 65536 entries
pub record HasEntries (s : Shape) : Type 0 where
  pub some : 1 ≤ s.entries
  pub within : s.entries ≤ MAX_ENTRIES

-- the values of the map have 1 to 4096 bytes
pub record HasValueSize (s : Shape) : Type 0 where
  pub some : 1 ≤ s.value_size
  pub within : s.value_size ≤ MAX_VALUE_SIZE

-- the map keeps both of its own limits
pub record IsWithinLimits (s : Shape) : Type 0 where
  pub entries : HasEntries s
  pub value_size : HasValueSize s

-- at most 16 maps, each within its own limits, of at most 16,777,216 bytes together
pub record AreWithinLimits (shapes : List Shape) : Type 0 where
  pub count : length shapes ≤ MAX_MAPS
  pub each : All IsWithinLimits shapes
  pub total : total_bytes shapes ≤ MAX_BYTES
