-- Results are ranges, and grow with what they are made of.
use Rattle.std.proofs.Common.{ℕ, ◌+◌, ◌-◌, ◌*◌, ◌/◌, ◌%◌, ◌^◌, ◌<◌, ◌≤◌, min, max, ◌&&◌, nat_eq, nat_lt, if◌then◌else◌, arith}
use Rattle.std.proofs.lemmas.Bool.{ltb-true}
use Rattle.std.proofs.Math.Nat.{mod-one, mul-le-mul, zero-mod, div-le_self}
use Rattle.scx_isa_semantics.specs.declared.operations.Width.TheVariants.{Bits64}
use Rattle.scx_isa_semantics.specs.declared.operations.Operation.{Operation}
use Rattle.scx_isa_semantics.specs.declared.operations.Operation.TheVariants.{Add, Multiply, And, ShiftLeft, ShiftRight, Modulo, Move}
use Rattle.scx_isa_semantics.specs.Arithmetic.{compute}
use Rattle.scx_abs_ranges.specs.declared.ranges.Range.{Range}
use Rattle.scx_abs_ranges.specs.Ranges.{IsRange, trailing, floor, between, single, all, is_single}
use Rattle.scx_abs_ranges.specs.Results.{sum_range, multiple_range, shifted_right, mask_range, remainder, by_constant, spread, operation_range}
use Rattle.scx_abs_ranges.proofs.Multiples.{if_case, between_range, single_range, all_range, multiples_added, multiple_of_less, floor_multiple, floor_below, trailing_small}
use Rattle.scx_abs_ranges.proofs.KeptByResults.{div_grows, scaled_multiple}

same_least : (c : ℕ) → c ≤ c
same_least c = omega arith

below_through : (a b c : ℕ) → a ≤ b → b < c → a < c
below_through a b c f g = omega arith

least_below : (a b c : ℕ) → a < c → min a b < c
least_below a b c f = omega arith

largest : (a b n : ℕ) → a ≤ n → b ≤ n → max a b ≤ n
largest a b n f g = omega arith

none_less : (c : ℕ) → 0 ≤ c
none_less c = omega arith

added_range : (r s : Range) → IsRange r → IsRange s → IsRange (sum_range r s)
added_range r s wr ws =
    let or : r.low ≤ r.high = wr.formed.ordered in
    let os : s.low ≤ s.high = ws.formed.ordered in
    let small : r.shift ≤ 3 = wr.formed.small in
    if_case IsRange (nat_lt (r.high + s.high) (2 ^ 64)) (between (r.low + s.low) (r.high + s.high) (min r.shift s.shift)) all
    (λ e. between_range (r.low + s.low) (r.high + s.high) (min r.shift s.shift) (omega arith) (ltb-true (r.high + s.high) (2 ^ 64) e) (omega arith)
    (multiples_added (min r.shift s.shift) r.low s.low (omega arith) (multiple_of_less r.low r.shift (min r.shift s.shift) (omega arith) wr.formed.low_multiple) (multiple_of_less s.low s.shift (min r.shift s.shift) (omega arith) ws.formed.low_multiple))
    (multiples_added (min r.shift s.shift) r.high s.high (omega arith) (multiple_of_less r.high r.shift (min r.shift s.shift) (omega arith) wr.formed.high_multiple) (multiple_of_less s.high s.shift (min r.shift s.shift) (omega arith) ws.formed.high_multiple)))
    (λ e. all_range)

least_left : (a b : ℕ) → min a b ≤ a
least_left a b = omega arith

scaled_range : (c : ℕ) (r : Range) → IsRange r → IsRange (multiple_range c r)
scaled_range c r w =
    if_case IsRange (nat_lt (r.high * c) (2 ^ 64)) (between (r.low * c) (r.high * c) (min 3 (r.shift + trailing c))) all
    (λ e. between_range (r.low * c) (r.high * c) (min 3 (r.shift + trailing c)) (mul-le-mul w.formed.ordered (same_least c)) (ltb-true (r.high * c) (2 ^ 64) e) (least_left 3 (r.shift + trailing c))
    (scaled_multiple r.low c r.shift w.formed.low_multiple) (scaled_multiple r.high c r.shift w.formed.high_multiple))
    (λ e. all_range)

shifted_range : (c : ℕ) (r : Range) → IsRange r → IsRange (shifted_right c r)
shifted_range c r w =
    between_range (r.low / 2 ^ (c % 64)) (r.high / 2 ^ (c % 64)) 0 (div_grows r.low r.high (c % 64) w.formed.ordered) (below_through (r.high / 2 ^ (c % 64)) r.high (2 ^ 64) (div-le_self r.high (2 ^ (c % 64))) w.fits)
    (none_less 3) (mod-one (r.low / 2 ^ (c % 64))) (mod-one (r.high / 2 ^ (c % 64)))

masked_range : (c : ℕ) (r : Range) → IsRange r → IsRange (mask_range c r)
masked_range c r w =
    let a = max r.shift (trailing c) in
    let small : max r.shift (trailing c) ≤ 3 = largest r.shift (trailing c) 3 w.formed.small (trailing_small c) in
    between_range 0 (floor (min r.high c) a) a (none_less (floor (min r.high c) a))
    (below_through (floor (min r.high c) a) (min r.high c) (2 ^ 64) (floor_below (min r.high c) a) (least_below r.high c (2 ^ 64) w.fits)) small (zero-mod (2 ^ a)) (floor_multiple a (min r.high c) small)

small_least : (a b : ℕ) → a ≤ 3 → min a b ≤ 3
small_least a b f = omega arith

remainder_range : (c : ℕ) (r : Range) → IsRange r → IsRange (remainder c r)
remainder_range c r w =
    let a = min r.shift (trailing c) in
    let small : min r.shift (trailing c) ≤ 3 = small_least r.shift (trailing c) w.formed.small in
    if_case IsRange (nat_eq c 0) all (between 0 (floor (min r.high (c - 1)) a) a) (λ e. all_range)
    (λ e. between_range 0 (floor (min r.high (c - 1)) a) a (none_less (floor (min r.high (c - 1)) a))
    (below_through (floor (min r.high (c - 1)) a) (min r.high (c - 1)) (2 ^ 64) (floor_below (min r.high (c - 1)) a) (least_below r.high (c - 1) (2 ^ 64) w.fits)) small (zero-mod (2 ^ a)) (floor_multiple a (min r.high (c - 1)) small))

-- what an operation by a constant makes of a range is a range
pub constant_range : (o : Operation) (c : ℕ) (r : Range) → IsRange r → IsRange (by_constant o c r)
constant_range Multiply c r w = scaled_range c r w
constant_range ShiftLeft c r w = scaled_range (2 ^ (c % 64)) r w
constant_range ShiftRight c r w = shifted_range c r w
constant_range And c r w = masked_range c r w
constant_range Modulo c r w = remainder_range c r w
constant_range o c r w = all_range

-- by a single range the constant's result is a range, and by any other one all numbers are
pub constants_range : (o : Operation) (r s : Range) → IsRange r → IsRange (if is_single s then by_constant o s.low r else all)
constants_range o r s w = if_case IsRange (is_single s) (by_constant o s.low r) all (λ e. constant_range o s.low r w) (λ e. all_range)

-- what an operation makes of two ranges is a range
pub spread_range : (o : Operation) (r s : Range) → IsRange r → IsRange s → IsRange (spread o r s)
spread_range Move r s wr ws = ws
spread_range Add r s wr ws = added_range r s wr ws
spread_range o r s wr ws = constants_range o r s wr

-- what is known of a 64-bit operation on members of ranges is a range
abbrev pub ResultsAreRanges : Type 0
ResultsAreRanges =
    (o : Operation) (r s : Range) → IsRange r → IsRange s → compute Bits64 o r.low s.low < 2 ^ 64 → IsRange (operation_range o r s)

-- what is known of 64-bit operations is a range
pub results_are_ranges : ResultsAreRanges
results_are_ranges o r s wr ws fits =
    if_case IsRange (is_single r && is_single s) (single (compute Bits64 o r.low s.low)) (spread o r s)
    (λ e. single_range (compute Bits64 o r.low s.low) fits) (λ e. spread_range o r s wr ws)
