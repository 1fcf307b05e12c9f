-- The laws of results: a result holds every number that the instruction computes of members,
-- is a range, and grows with the ranges that it is made of. Numbers are below 2^64, as
-- members of ranges are.
use Rattle.std.specs.Prelude.{ℕ, ◌^◌, ◌<◌}
use Rattle.scx_isa_semantics.specs.declared.operations.Width.{Width}
use Rattle.scx_isa_semantics.specs.declared.operations.Operation.{Operation}
use Rattle.scx_isa_semantics.specs.declared.operations.Extension.{Extension}
use Rattle.scx_isa_semantics.specs.declared.operations.ByteOrder.{ByteOrder}
use Rattle.scx_isa_semantics.specs.declared.operations.SwapWidth.{SwapWidth}
use Rattle.scx_isa_semantics.specs.declared.operations.Access.{Access}
use Rattle.scx_isa_semantics.specs.Arithmetic.{low, compute, negative, sign_extension, byte_swapped}
use Rattle.scx_isa_semantics.specs.Memory.{size_bytes, access_size, read_as}
use Rattle.scx_abs_ranges.specs.declared.ranges.Range.{Range}
use Rattle.scx_abs_ranges.specs.Ranges.{IsIn, IsRange, CoversRange}
use Rattle.scx_abs_ranges.specs.Results.{computed_at, move_range, negated_range, extended_range, swapped_range, loaded_range}

-- what is known of an operation on two numbers: it holds its results, is a range and grows
pub record AreResults (f : ℕ → ℕ → ℕ) (known : Range → Range → Range) : Type 0 where
  pub kept : (r s : Range) (n m : ℕ)
      → IsRange r → IsRange s → IsIn n r → IsIn m s → IsIn (f n m) (known r s)
  pub ranges : (r s : Range) → IsRange r → IsRange s → IsRange (known r s)
  pub grow :
      (r' s' r s : Range) → IsRange r' → IsRange s' → IsRange r → IsRange s
      → CoversRange r' r → CoversRange s' s → CoversRange (known r' s') (known r s)

-- what is known of an operation on one number: it holds its results, is a range and grows
pub record AreImages (f : ℕ → ℕ) (known : Range → Range) : Type 0 where
  pub kept : (r : Range) (n : ℕ) → IsRange r → IsIn n r → IsIn (f n) (known r)
  pub ranges : (r : Range) → IsRange r → IsRange (known r)
  pub grow : (r' r : Range)
      → IsRange r' → IsRange r → CoversRange r' r → CoversRange (known r') (known r)

-- what is known of arithmetic, of either width, holds its results, is a range and grows
abbrev pub ArithmeticIsSound : Type 0
ArithmeticIsSound = (w : Width) (o : Operation) → AreResults (compute w o) (computed_at w o)

-- what is known of a move, of either width, holds what it copies, is a range and grows
abbrev pub CopiesAreSound : Type 0
CopiesAreSound = (w : Width) → AreImages (low w) (move_range w)

-- what is known of a negation, of either width, holds its results, is a range and grows
abbrev pub NegativesAreSound : Type 0
NegativesAreSound = (w : Width) → AreImages (negative w) (negated_range w)

-- what is known of a move that extends a sign holds its results, is a range and grows
abbrev pub ExtensionsAreSound : Type 0
ExtensionsAreSound = (e : Extension) → AreImages (sign_extension e) (extended_range e)

-- what is known of a byte swap holds its results, is a range and grows
abbrev pub SwapsAreSound : Type 0
SwapsAreSound = (o : ByteOrder) (w : SwapWidth) → AreImages (byte_swapped o w) (swapped_range o w)

-- what a load makes of a number of its size
pub record IsLoaded (a : Access) : Type 0 where
  pub range : IsRange (loaded_range a)
  pub kept : (n : ℕ) → n < 256 ^ size_bytes (access_size a) → IsIn (read_as a n) (loaded_range a)

-- what is known of a load of a number is a range that holds all that it may read
abbrev pub LoadsAreSound : Type 0
LoadsAreSound = (a : Access) → IsLoaded a
