-- Cuts: the members of a range for which a comparison with a number has a given answer (RFC 9669,
-- section 4.3). There may be none.
use Rattle.std.specs.Prelude.{ℕ, ◌+◌, ◌-◌, ◌^◌, min, max, Bool, true, false, nat_eq, nat_lt, nat_le, Option, Some, None, if◌then◌else◌}
use Rattle.scx_isa_semantics.specs.declared.operations.Comparison.{Comparison}
use Rattle.scx_isa_semantics.specs.declared.operations.Comparison.TheVariants.{Equal, Greater, GreaterOrEqual, NotEqual, Less, LessOrEqual}
use Rattle.scx_abs_ranges.specs.declared.ranges.Range.{Range}
use Rattle.scx_abs_ranges.specs.Ranges.{floor, between, single, contains}

-- the members above a number
abbrev pub above : ℕ → Range → Option Range
above c r =
    if nat_lt c r.high
    then Some (between (max r.low (floor c r.shift + 2 ^ r.shift)) r.high r.shift)
    else None

-- the members that aren't above it
abbrev pub up_to : ℕ → Range → Option Range
up_to c r =
    if nat_le r.low c then Some (between r.low (min r.high (floor c r.shift)) r.shift) else None

-- the members that aren't below it
abbrev pub from : ℕ → Range → Option Range
from c r = if nat_eq c 0 then Some r else above (c - 1) r

-- the members below it
abbrev pub below : ℕ → Range → Option Range
below c r = if nat_eq c 0 then None else up_to (c - 1) r

-- the member that is the number
abbrev pub equal : ℕ → Range → Option Range
equal c r = if contains c r then Some (single c) else None

-- the members but the number, where it is an end: a range has no hole
abbrev pub unequal : ℕ → Range → Option Range
unequal c r =
    if nat_eq c r.low
    then (if nat_eq c r.high then None else Some (between (r.low + 2 ^ r.shift) r.high r.shift))
    else (if nat_eq c r.high then Some (between r.low (r.high - 2 ^ r.shift) r.shift) else Some r)

-- by a comparison and its answer; signed comparisons and bit tests cut nothing
abbrev pub cut : Comparison → Bool → ℕ → Range → Option Range
cut Equal true c r = equal c r
cut Equal false c r = unequal c r
cut NotEqual true c r = unequal c r
cut NotEqual false c r = equal c r
cut Greater true c r = above c r
cut Greater false c r = up_to c r
cut GreaterOrEqual true c r = from c r
cut GreaterOrEqual false c r = below c r
cut Less true c r = below c r
cut Less false c r = from c r
cut LessOrEqual true c r = up_to c r
cut LessOrEqual false c r = above c r
cut o b c r = Some r
