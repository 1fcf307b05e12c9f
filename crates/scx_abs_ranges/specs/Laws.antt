-- The laws of ranges and cuts: the order is inclusion of sets, the join the least cover; a cut
-- keeps the members that take its side, and more is kept where more was.
use Rattle.std.specs.Prelude.{ℕ, ◌≡◌, ◌<◌, Bool, true, false, not, Option, Some, None}
use Rattle.scx_isa_semantics.specs.declared.operations.Width.TheVariants.{Bits64}
use Rattle.scx_isa_semantics.specs.declared.operations.Comparison.{Comparison}
use Rattle.scx_isa_semantics.specs.declared.operations.Comparison.TheVariants.{Equal, Greater, GreaterOrEqual, NotEqual, Less, LessOrEqual}
use Rattle.scx_isa_semantics.specs.Arithmetic.{compares}
use Rattle.scx_abs_ranges.specs.declared.ranges.Range.{Range}
use Rattle.scx_abs_ranges.specs.Ranges.{IsIn, IsRange, CoversRange, join_ranges}
use Rattle.scx_abs_ranges.specs.Cuts.{unequal, cut}

-- ---- order and join

-- one range covers another exactly where it has all of its members
abbrev pub OrderIsInclusion : Type 0
OrderIsInclusion =
    (b a : Range)
    → IsRange b → IsRange a
    → (CoversRange b a → (n : ℕ) → IsIn n a → IsIn n b)
    × (((n : ℕ) → IsIn n a → IsIn n b) → CoversRange b a)

-- it covers two, and whatever covers both covers it
pub record IsLeast (j a b : Range) : Type 0 where
  pub range : IsRange j
  pub covers_first : CoversRange j a
  pub covers_second : CoversRange j b
  pub least : (c : Range) → CoversRange c a → CoversRange c b → CoversRange c j

-- the join of two ranges is the least range that covers both
abbrev pub JoinIsLeastCover : Type 0
JoinIsLeastCover = (a b : Range) → IsRange a → IsRange b → IsLeast (join_ranges a b) a b

-- ---- cuts

-- the number is among those that a cut leaves
abbrev pub IsInCut : ℕ → Option Range → Type 0
IsInCut n None = ⊥
IsInCut n (Some r) = IsIn n r

-- a cut leaves nothing, or a range
abbrev pub IsCutRange : Option Range → Type 0
IsCutRange None = Unit {0}
IsCutRange (Some r) = IsRange r

-- where the second cut leaves a range, the first leaves one that covers it
abbrev pub CoversCut : Option Range → Option Range → Type 0
CoversCut b None = Unit {0}
CoversCut None (Some a) = ⊥
CoversCut (Some b) (Some a) = CoversRange b a

-- members for which the comparison has the answer are kept
abbrev pub CutsKeep : Type 0
CutsKeep =
    (o : Comparison) (b : Bool) (c n : ℕ) (r : Range)
    → IsRange r → IsIn n r → compares Bits64 o n c ≡ b → IsInCut n (cut o b c r)

-- whether a cut takes all members that don't take its side: an inequality takes only an end away,
-- signed comparisons and bit tests nothing
abbrev pub takes_the_rest : Comparison → Bool → Bool
takes_the_rest Equal b = b
takes_the_rest NotEqual b = not b
takes_the_rest Greater b = true
takes_the_rest GreaterOrEqual b = true
takes_the_rest Less b = true
takes_the_rest LessOrEqual b = true
takes_the_rest o b = false

-- no others are left
abbrev pub CutsAreExact : Type 0
CutsAreExact =
    (o : Comparison) (b : Bool) (c n : ℕ) (r : Range) → IsRange r
    → takes_the_rest o b ≡ true → IsInCut n (cut o b c r) → compares Bits64 o n c ≡ b

-- an inequality leaves its number only inside
abbrev pub InequalitiesTakeEnds : Type 0
InequalitiesTakeEnds =
    (c : ℕ) (r : Range) → IsRange r → IsInCut c (unequal c r) → (r.low < c) × (c < r.high)

-- what is left is a range
abbrev pub CutsAreRanges : Type 0
CutsAreRanges =
    (o : Comparison) (b : Bool) (c : ℕ) (r : Range) → IsRange r → IsCutRange (cut o b c r)

-- of more, more is left
abbrev pub CutsGrow : Type 0
CutsGrow =
    (o : Comparison) (b : Bool) (c : ℕ) (s r : Range)
    → IsRange s → IsRange r → CoversRange s r → CoversCut (cut o b c s) (cut o b c r)

-- no more is left than there was
abbrev pub CutsNarrow : Type 0
CutsNarrow =
    (o : Comparison) (b : Bool) (c : ℕ) (r : Range) → IsRange r → CoversCut (Some r) (cut o b c r)
