-- Ranges of offsets in an element of a map. A pointer may be at the end of its element, so an
-- offset is at most the element's size; it is moved by a constant or by a range of numbers, and an
-- access is checked at each offset of the range.
use Rattle.std.specs.Prelude.{ℕ, ◌+◌, ◌%◌, ◌^◌, ℤ, unsigned_abs, min, Bool, false, ◌&&◌, ◌||◌, nat_eq, nat_le, Option, Some, None, is_some, if◌then◌else◌}
use Rattle.scx_isa_semantics.specs.Arithmetic.{at_distance}
use Rattle.scx_isa_semantics.specs.Memory.{within}
use Rattle.scx_abs_ranges.specs.declared.ranges.Range.{Range}
use Rattle.scx_abs_ranges.specs.Ranges.{trailing, between, is_single}

-- ---- moves

-- the range between two numbers, where there are both
abbrev pub between_some : Option ℕ → Option ℕ → ℕ → Option Range
between_some None high shift = None
between_some (Some low) None shift = None
between_some (Some low) (Some high) shift = Some (between low high shift)

-- the offsets moved by a constant, where all of them stay in the element
abbrev pub offsets_plus_constant : ℕ → Range → ℤ → Option Range
offsets_plus_constant size r k =
    between_some (at_distance r.low k) (within size (at_distance r.high k))
    (min r.shift (trailing (unsigned_abs k)))

-- the offsets moved by a range of numbers, where all of them stay in it
abbrev pub offsets_plus_range : ℕ → Range → Range → Option Range
offsets_plus_range size r s =
    if nat_le (r.high + s.high) size
    then Some (between (r.low + s.low) (r.high + s.high) (min r.shift s.shift))
    else None

-- ---- accesses

-- that many bytes from the offset on end in the element
abbrev pub ends_within : ℕ → ℕ → Option ℕ → Bool
ends_within size n None = false
ends_within size n (Some at) = nat_le (at + n) size

-- whether that many bytes lie in the element, at that distance from each of the offsets
abbrev pub are_inside : ℕ → ℕ → Range → ℤ → Bool
are_inside size n r k = is_some (at_distance r.low k) && ends_within size n (at_distance r.high k)

-- the offset is a multiple
abbrev pub is_multiple : ℕ → Option ℕ → Bool
is_multiple n None = false
is_multiple n (Some at) = nat_eq (at % n) 0

-- whether each of the offsets is a multiple, that distance on: the first is, and so is each step
abbrev pub are_aligned : ℕ → Range → ℤ → Bool
are_aligned n r k =
    is_multiple n (at_distance r.low k) && (is_single r || nat_eq (2 ^ r.shift % n) 0)
