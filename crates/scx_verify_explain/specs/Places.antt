-- Bytes of memory that pointers point to, and that accesses and moves of pointers come to.
use Rattle.std.specs.Prelude.{ℕ, min, ℤ, pos, negsuc, ◌+ℤ◌, ◌-ℤ◌, ◌≤ℤ◌, List, Option, Some, None, option_map}
use Rattle.scx_isa_semantics.specs.declared.operations.Width.{Width}
use Rattle.scx_isa_semantics.specs.declared.operations.Operation.{Operation}
use Rattle.scx_isa_semantics.specs.declared.instructions.Operand.{Operand}
use Rattle.scx_isa_semantics.specs.declared.instructions.Operand.TheVariants as operand
use Rattle.scx_isa_semantics.specs.Registers.{number}
use Rattle.scx_isa_semantics.specs.Meaning.{pointer_step}
use Rattle.scx_isa_semantics.specs.Memory.{size_bytes}
use Rattle.scx_maps.specs.declared.shape.Shape.{Shape}
use Rattle.scx_abs.specs.declared.kinds.Kind.{Kind}
use Rattle.scx_abs.specs.declared.kinds.Kind.TheVariants.{Num, Stack, Elem}
use Rattle.scx_abs.specs.declared.states.AbsState.{AbsState}
use Rattle.scx_abs.specs.Checks.{element_size}
use Rattle.scx_abs.specs.States.{kind_at}
use Rattle.scx_verify_explain.specs.declared.named.Address.{Address}
use Rattle.scx_verify_explain.specs.declared.named.ValueBytes.{ValueBytes}
use Rattle.scx_verify_explain.specs.declared.places.Memory.TheVariants as memory
use Rattle.scx_verify_explain.specs.declared.places.Place.{Place}
use Rattle.scx_verify_explain.specs.declared.places.Reach.{Reach}
use Rattle.scx_verify_explain.specs.declared.places.Distances.{Distances}

-- a byte of the stack, counted from the top
abbrev pub stack_place : ℕ → Place
stack_place o =
    record { memory = memory.Stack; from = pos o -ℤ pos 512; to = pos o -ℤ pos 512; shift = 0 }

-- the bytes to one of which a pointer of that kind points, if it is one to the stack
-- or to an element
abbrev pub place_of : List Shape → Kind → Option Place
place_of shapes (Stack o) = Some (stack_place o)
place_of shapes (Elem m r) = Some (record {
  memory = memory.Element m (pos (element_size shapes m));
  from = pos r.low;
  to = pos r.high;
  shift = r.shift;
})
place_of shapes k = None

-- ---- moves

-- the same number of bytes in any case
abbrev pub one_distance : ℤ → Distances
one_distance k = record { least = k; most = k; shift = 3 }

-- as many bytes as a number of that kind says
abbrev pub distances_in : Kind → Option Distances
distances_in (Num r) = Some (record { least = pos r.low; most = pos r.high; shift = r.shift })
distances_in k = None

-- how far an operation moves a pointer
abbrev pub distances_of : AbsState → Width → Operation → Operand → Option Distances
distances_of a w o (operand.Immediate k) =
    option_map one_distance (pointer_step w o (operand.Immediate k))
distances_of a w o (operand.Register r) = distances_in (kind_at a (number r))

-- a place that far on
abbrev pub place_at_distances : Place → Distances → Place
place_at_distances p s =
    record p { from = p.from +ℤ s.least; to = p.to +ℤ s.most; shift = min p.shift s.shift }

-- ---- accesses

-- the bytes that an address means whose register points to that place
abbrev pub reach_from : Address → Place → Reach
reach_from x p =
    record { place = place_at_distances p (one_distance x.offset); count = size_bytes x.size }

-- the bytes that an address means
abbrev pub reach_of : List Shape → AbsState → Address → Option Reach
reach_of shapes a x = option_map (reach_from x) (place_of shapes (kind_at a (number x.base)))

-- the bytes of a value whose register points to that place
abbrev pub value_reach_from : ValueBytes → Place → Reach
value_reach_from v p = record { place = p; count = v.count }

-- the bytes of a value
abbrev pub value_reach : List Shape → AbsState → ValueBytes → Option Reach
value_reach shapes a v = option_map (value_reach_from v) (place_of shapes (kind_at a (number v.base)))

-- that many bytes of the stack from that one on, counted from the lowest
abbrev pub stack_bytes : ℕ → ℕ → Reach
stack_bytes first n = record { place = stack_place first; count = n }

-- ---- numbers that 128 bits have room to add

-- both ends of the place are from -512 to 65535
pub record IsNear (p : Place) : Type 0 where
  pub from_low : negsuc 511 ≤ℤ p.from
  pub from_high : p.from ≤ℤ pos 65535
  pub to_low : negsuc 511 ≤ℤ p.to
  pub to_high : p.to ≤ℤ pos 65535

-- the least and the most of the distances are from -2^64 to 2^64 - 1
pub record AreShort (s : Distances) : Type 0 where
  pub least_low : negsuc 18446744073709551615 ≤ℤ s.least
  pub least_high : s.least ≤ℤ pos 18446744073709551615
  pub most_low : negsuc 18446744073709551615 ≤ℤ s.most
  pub most_high : s.most ≤ℤ pos 18446744073709551615
