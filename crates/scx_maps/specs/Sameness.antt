-- When `==` takes two lists of shapes for the same: shape by shape, in entries, value size and
-- kind.
use Rattle.std.specs.Prelude.{Bool, true, false, ◌==◌, ◌&&◌, List}
use Rattle.std.specs.Cmp.Lexicographic.{pointwise}
use Rattle.scx_isa_semantics.specs.declared.map_kinds.KeySize.{KeySize}
use Rattle.scx_isa_semantics.specs.declared.map_kinds.KeySize.TheVariants.{Four, Eight}
use Rattle.scx_isa_semantics.specs.declared.map_kinds.MapKind.{MapKind}
use Rattle.scx_isa_semantics.specs.declared.map_kinds.MapKind.TheVariants.{Array, PerCpu, Hash, Queue, Stack}
use Rattle.scx_maps.specs.declared.shape.Shape.{Shape}

-- true if keys are of one size
abbrev pub same_key_size : KeySize → KeySize → Bool
same_key_size Four Four = true
same_key_size Eight Eight = true
same_key_size s t = false

-- true if two kinds of maps are the same
abbrev pub same_kind : MapKind → MapKind → Bool
same_kind Array Array = true
same_kind PerCpu PerCpu = true
same_kind (Hash s) (Hash t) = same_key_size s t
same_kind Queue Queue = true
same_kind Stack Stack = true
same_kind k l = false

-- true if two maps have as many entries, of as many bytes, and are of one kind
abbrev pub same_shape : Shape → Shape → Bool
same_shape s t =
    (s.entries == t.entries) && ((s.value_size == t.value_size) && same_kind s.kind t.kind)

-- true if two lists have as many shapes, and the same ones at each place
abbrev pub same_shapes : List Shape → List Shape → Bool
same_shapes = pointwise same_shape
