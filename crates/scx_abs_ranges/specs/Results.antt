-- The range of the number that an instruction leaves (RFC 9669, sections 4.1, 4.2 and 5).
-- Of single numbers it is the single number that the instruction computes. Of others some 64-bit
-- arithmetic keeps bounds and multiples; the rest leaves no more than the width.
use Rattle.std.specs.Prelude.{ℕ, ◌+◌, ◌-◌, ◌*◌, ◌/◌, ◌%◌, ◌^◌, min, max, ◌&&◌, nat_eq, nat_lt, if◌then◌else◌}
use Rattle.scx_isa_semantics.specs.declared.operations.Width.{Width}
use Rattle.scx_isa_semantics.specs.declared.operations.Width.TheVariants.{Bits32, Bits64}
use Rattle.scx_isa_semantics.specs.declared.operations.Operation.{Operation}
use Rattle.scx_isa_semantics.specs.declared.operations.Operation.TheVariants.{Add, Multiply, And, ShiftLeft, ShiftRight, Modulo, Move}
use Rattle.scx_isa_semantics.specs.declared.operations.Extension.{Extension}
use Rattle.scx_isa_semantics.specs.declared.operations.ByteOrder.{ByteOrder}
use Rattle.scx_isa_semantics.specs.declared.operations.SwapWidth.{SwapWidth}
use Rattle.scx_isa_semantics.specs.declared.operations.Access.{Access}
use Rattle.scx_isa_semantics.specs.declared.operations.Access.TheVariants as access
use Rattle.scx_isa_semantics.specs.Arithmetic.{low, compute, negative, extension_width, sign_extension, byte_swapped}
use Rattle.scx_abs_ranges.specs.declared.ranges.Range.{Range}
use Rattle.scx_abs_ranges.specs.Ranges.{trailing, floor, between, single, all, is_single}

-- ---- 64-bit arithmetic

-- the sums, where none wraps
abbrev pub sum_range : Range → Range → Range
sum_range r s =
    if nat_lt (r.high + s.high) (2 ^ 64)
    then between (r.low + s.low) (r.high + s.high) (min r.shift s.shift)
    else all

-- the products with a number, where none wraps
abbrev pub multiple_range : ℕ → Range → Range
multiple_range c r =
    if nat_lt (r.high * c) (2 ^ 64)
    then between (r.low * c) (r.high * c) (min 3 (r.shift + trailing c))
    else all

-- the quotients by two to the power of a number
abbrev pub shifted_right : ℕ → Range → Range
shifted_right c r = between (r.low / 2 ^ (c % 64)) (r.high / 2 ^ (c % 64)) 0

-- the bits that are set in a number too
abbrev pub mask_range : ℕ → Range → Range
mask_range c r =
    between 0 (floor (min r.high c) (max r.shift (trailing c))) (max r.shift (trailing c))

-- the remainders by a number; by 0 they are what was divided
abbrev pub remainder : ℕ → Range → Range
remainder c r =
    if nat_eq c 0 then all
    else between 0 (floor (min r.high (c - 1)) (min r.shift (trailing c)))
    (min r.shift (trailing c))

-- an operation with a single number as operand
abbrev pub by_constant : Operation → ℕ → Range → Range
by_constant Multiply c r = multiple_range c r
by_constant ShiftLeft c r = multiple_range (2 ^ (c % 64)) r
by_constant ShiftRight c r = shifted_right c r
by_constant And c r = mask_range c r
by_constant Modulo c r = remainder c r
by_constant o c r = all

-- an operation on a destination and an operand that aren't both single
abbrev pub spread : Operation → Range → Range → Range
spread Move r s = s
spread Add r s = sum_range r s
spread o r s = if is_single s then by_constant o s.low r else all

-- a 64-bit operation on a destination and an operand
abbrev pub operation_range : Operation → Range → Range → Range
operation_range o r s =
    if is_single r && is_single s then single (compute Bits64 o r.low s.low) else spread o r s

-- ---- both widths

-- the numbers of 8 bits
abbrev pub bytes : Range
bytes = record { low = 0; high = 255; shift = 0 }

-- the numbers of 16 bits
abbrev pub half_words : Range
half_words = record { low = 0; high = 65535; shift = 0 }

-- the numbers of 32 bits
abbrev pub words : Range
words = record { low = 0; high = 4294967295; shift = 0 }

-- all numbers of a width
abbrev pub widest : Width → Range
widest Bits32 = words
widest Bits64 = all

-- what a function makes of a single number, else the second range
abbrev pub of_one : (ℕ → ℕ) → Range → Range → Range
of_one f w r = if is_single r then single (f r.low) else w

-- what it makes of two single numbers, else the second range
abbrev pub of_two : (ℕ → ℕ → ℕ) → Range → Range → Range → Range
of_two f w r s = if is_single r && is_single s then single (f r.low s.low) else w

-- arithmetic on a destination and an operand
abbrev pub computed_at : Width → Operation → Range → Range → Range
computed_at Bits32 o r s = of_two (compute Bits32 o) words r s
computed_at Bits64 o r s = operation_range o r s

-- a move, which reads the operand alone
abbrev pub move_range : Width → Range → Range
move_range Bits32 s = of_one (low Bits32) words s
move_range Bits64 s = s

-- negation
abbrev pub negated_range : Width → Range → Range
negated_range w r = of_one (negative w) (widest w) r

-- a move that extends a sign
abbrev pub extended_range : Extension → Range → Range
extended_range e r = of_one (sign_extension e) (widest (extension_width e)) r

-- a byte swap
abbrev pub swapped_range : ByteOrder → SwapWidth → Range → Range
swapped_range o w r = of_one (byte_swapped o w) all r

-- a load of a number
abbrev pub loaded_range : Access → Range
loaded_range access.Byte = bytes
loaded_range access.HalfWord = half_words
loaded_range access.Word = words
loaded_range a = all
