-- The laws of ranges of offsets: moves keep each offset and are refused only where one leaves the
-- element, an access is tested at each of them, and what passes for more offsets passes for fewer.
-- An element may have any size.
use Rattle.std.specs.Prelude.{ℕ, ◌+◌, ◌%◌, ◌≡◌, ◌≤◌, ℤ, true, Option, Some, None, is_some}
use Rattle.scx_isa_semantics.specs.declared.operations.Size.{Size}
use Rattle.scx_isa_semantics.specs.Arithmetic.{at_distance}
use Rattle.scx_isa_semantics.specs.Memory.{within, size_bytes}
use Rattle.scx_abs_ranges.specs.declared.ranges.Range.{Range}
use Rattle.scx_abs_ranges.specs.Ranges.{IsIn, IsWellFormed, CoversRange}
use Rattle.scx_abs_ranges.specs.Offsets.{offsets_plus_constant, offsets_plus_range, are_inside, are_aligned}

-- ---- moves by a constant

-- the offset stays in the element, that distance on, and is in the range
abbrev pub IsMoved : ℕ → ℕ → ℤ → Option Range → Type 0
IsMoved size n k None = Unit {0}
IsMoved size n k (Some q) = (to : ℕ) × (within size (at_distance n k) ≡ Some to) × IsIn to q

-- where there is a range, it is one of offsets in the element
abbrev pub IsInElement : ℕ → Option Range → Type 0
IsInElement size None = Unit {0}
IsInElement size (Some q) = IsWellFormed q × (q.high ≤ size)

-- where the first is a range, so is the second, and is covered by it
abbrev pub PassesMove : Option Range → Option Range → Type 0
PassesMove None a = Unit {0}
PassesMove (Some b) None = ⊥
PassesMove (Some b) (Some a) = CoversRange b a

-- each offset is kept
abbrev pub MovesAreSound : Type 0
MovesAreSound =
    (size : ℕ) (r : Range) (k : ℤ) (n : ℕ) → IsWellFormed r → IsIn n r
    → IsMoved size n k (offsets_plus_constant size r k)

-- there is a range where each offset stays in the element
abbrev pub MovesAreExact : Type 0
MovesAreExact =
    (size : ℕ) (r : Range) (k : ℤ)
    → IsWellFormed r → ((n : ℕ) → IsIn n r → (to : ℕ) × (within size (at_distance n k) ≡ Some to))
    → is_some (offsets_plus_constant size r k) ≡ true

-- offsets that were moved by a constant are a range in the element, or up to its end
abbrev pub MovesStayWithin : Type 0
MovesStayWithin =
    (size : ℕ) (r : Range) (k : ℤ)
    → IsWellFormed r → IsInElement size (offsets_plus_constant size r k)

-- where offsets may be moved by a constant, fewer may too, and what they give is covered
abbrev pub MovesAreMonotone : Type 0
MovesAreMonotone =
    (size : ℕ) (b a : Range) (k : ℤ) → IsWellFormed b → IsWellFormed a
    → CoversRange b a → PassesMove (offsets_plus_constant size b k) (offsets_plus_constant size a k)

-- ---- moves by a range of numbers

-- the sum stays in the element, and is in the range
abbrev pub IsAdvanced : ℕ → ℕ → Option Range → Type 0
IsAdvanced size to None = Unit {0}
IsAdvanced size to (Some q) = (to ≤ size) × IsIn to q

-- each sum is kept
abbrev pub AdvancesAreSound : Type 0
AdvancesAreSound =
    (size : ℕ) (r s : Range) (n m : ℕ) → IsWellFormed r → IsWellFormed s → IsIn n r → IsIn m s
    → IsAdvanced size (n + m) (offsets_plus_range size r s)

-- there is a range where each sum stays in the element
abbrev pub AdvancesAreExact : Type 0
AdvancesAreExact =
    (size : ℕ) (r s : Range)
    → IsWellFormed r → IsWellFormed s → ((n m : ℕ) → IsIn n r → IsIn m s → n + m ≤ size)
    → is_some (offsets_plus_range size r s) ≡ true

-- offsets that were moved by a range of numbers are a range in the element, or up to its end
abbrev pub AdvancesStayWithin : Type 0
AdvancesStayWithin =
    (size : ℕ) (r s : Range)
    → IsWellFormed r → IsWellFormed s → IsInElement size (offsets_plus_range size r s)

-- where offsets may be moved by a range of numbers, fewer may by fewer; what they give is covered
abbrev pub AdvancesAreMonotone : Type 0
AdvancesAreMonotone =
    (size : ℕ) (b d a c : Range)
    → IsWellFormed b → IsWellFormed d → IsWellFormed a → IsWellFormed c → CoversRange b a
    → CoversRange d c → PassesMove (offsets_plus_range size b d) (offsets_plus_range size a c)

-- ---- accesses

-- that many bytes lie in the element, at that distance from the offset
pub record IsInside (size n : ℕ) (k : ℤ) (at to : ℕ) : Type 0 where
  pub there : at_distance at k ≡ Some to
  pub inside : to + n ≤ size

-- that many bytes lie in the element, that distance from each of the offsets
abbrev pub AllInside : ℕ → ℕ → Range → ℤ → Type 0
AllInside size n r k = (at : ℕ) → IsIn at r → (to : ℕ) × IsInside size n k at to

-- each of the offsets, that distance on, isn't below 0 and is a multiple
abbrev pub AllAligned : ℕ → Range → ℤ → Type 0
AllAligned n r k = (at : ℕ) → IsIn at r → (to : ℕ) × (at_distance at k ≡ Some to) × (to % n ≡ 0)

-- what is tested is that of each offset
abbrev pub InsideIsExact : Type 0
InsideIsExact =
    (size n : ℕ) (r : Range) (k : ℤ)
    → IsWellFormed r
    → (are_inside size n r k ≡ true → AllInside size n r k)
    × (AllInside size n r k → are_inside size n r k ≡ true)

-- the test of alignment passes exactly where each of the offsets is a multiple of an access's bytes
abbrev pub AlignedIsExact : Type 0
AlignedIsExact =
    (s : Size) (r : Range) (k : ℤ)
    → IsWellFormed r
    → (are_aligned (size_bytes s) r k ≡ true → AllAligned (size_bytes s) r k)
    × (AllAligned (size_bytes s) r k → are_aligned (size_bytes s) r k ≡ true)

-- what passes for a range passes for each that it covers
abbrev pub AccessesAreMonotone : Type 0
AccessesAreMonotone =
    (size : ℕ) (s : Size) (b a : Range) (k : ℤ) → IsWellFormed b → IsWellFormed a → CoversRange b a
    → (are_inside size (size_bytes s) b k ≡ true → are_inside size (size_bytes s) a k ≡ true)
    × (are_aligned (size_bytes s) b k ≡ true → are_aligned (size_bytes s) a k ≡ true)
