-- The slots of a map: an element each, of which a map that every CPU has a copy of has as many for
-- each of 64 CPUs.
use Rattle.std.specs.Prelude.{ℕ, ◌*◌}
use Rattle.scx_isa_semantics.specs.declared.map_kinds.MapKind.{MapKind}
use Rattle.scx_isa_semantics.specs.declared.map_kinds.MapKind.TheVariants.{Array, PerCpu}
use Rattle.scx_isa_semantics.specs.Directories.{copies}
use Rattle.scx_maps.specs.declared.shape.Shape.{Shape}

-- the elements of a map of that kind, by the entries that it is said to have
abbrev pub slots_by : MapKind → ℕ → ℕ
slots_by PerCpu n = n * copies
slots_by k n = n

-- the elements of a map
abbrev pub slots : Shape → ℕ
slots s = slots_by s.kind s.entries

-- the array with as many elements of as many bytes
abbrev pub laid : Shape → Shape
laid s = record { entries = slots s; value_size = s.value_size; kind = Array }
