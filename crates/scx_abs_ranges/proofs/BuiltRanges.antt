-- What is built is a range, function by function.
use Rattle.std.proofs.Common.{◌≡◌, ℕ, ℤ, ◌^◌, ◌<◌, ◌≤◌, min, max, nat_eq, if◌then◌else◌, Bool, true, false, Some, refl, ap, subst, arith}
use Rattle.scx_isa_semantics.specs.declared.operations.Width.{Width}
use Rattle.scx_isa_semantics.specs.declared.operations.Operation.{Operation}
use Rattle.scx_isa_semantics.specs.declared.operations.Comparison.{Comparison}
use Rattle.scx_isa_semantics.specs.declared.operations.Extension.{Extension}
use Rattle.scx_isa_semantics.specs.declared.operations.ByteOrder.{ByteOrder}
use Rattle.scx_isa_semantics.specs.declared.operations.SwapWidth.{SwapWidth}
use Rattle.scx_isa_semantics.specs.declared.operations.Access.{Access}
use Rattle.scx_abs_ranges.specs.declared.ranges.Range.{Range}
use Rattle.scx_abs_ranges.specs.declared.steps.Step.TheVariants.{One}
use Rattle.scx_abs_ranges.specs.Ranges.{IsRange, join_ranges}
use Rattle.scx_abs_ranges.specs.Steps.{step_of}
use Rattle.scx_abs_ranges.specs.Kept.{IsKeptRange, range_of}
use Rattle.scx_abs_ranges.specs.Cuts.{cut}
use Rattle.scx_abs_ranges.specs.Laws.{IsCutRange}
use Rattle.scx_abs_ranges.specs.Results.{computed_at, move_range, negated_range, extended_range, swapped_range, loaded_range}
use Rattle.scx_abs_ranges.specs.Offsets.{offsets_plus_constant, offsets_plus_range}
use Rattle.scx_abs_ranges.specs.OffsetLaws.{IsInElement}
use Rattle.scx_abs_ranges.proofs.KeptRanges.{kept_range, kept_parts}
use Rattle.scx_abs_ranges.proofs.Order.{join_is_least_cover}
use Rattle.scx_abs_ranges.proofs.KeptByCuts.{cuts_are_ranges}
use Rattle.scx_abs_ranges.proofs.AllWidths.{arithmetic_is_sound, copies_are_sound, negatives_are_sound, extensions_are_sound, swaps_are_sound, loads_are_sound}
use Rattle.scx_abs_ranges.proofs.ElementOffsets.{moves_stay_within, advances_stay_within}

-- the join of two ranges is a range
pub joined_range : (r s : Range) → IsRange r → IsRange s → IsRange (join_ranges r s)
joined_range r s wr ws = (join_is_least_cover r s wr ws).range

-- a join whose step is 1 keeps it
finest : (b : Bool) (s : ℕ) → s ≡ 0 → (if b then One else step_of s) ≡ One
finest true s e = refl
finest false s e = ap step_of e

-- where one of two ranges has the step 1, their join is built with the step 1
pub joined_finely : (r s : Range) → IsRange r → IsRange s → min r.shift s.shift ≡ 0
    → range_of (min r.low s.low) (max r.high s.high) One ≡ join_ranges r s
joined_finely r s wr ws e =
    let q = join_ranges r s in
    subst (λ t. range_of q.low q.high t ≡ q) (finest (nat_eq q.low q.high) q.shift e) (kept_range q (joined_range r s wr ws))

-- where one of two ranges has the step 1, their join may be kept by its ends and the step 1
pub joined_fine_parts : (r s : Range) → IsRange r → IsRange s → min r.shift s.shift ≡ 0
    → IsKeptRange (min r.low s.low) (max r.high s.high) One
joined_fine_parts r s wr ws e =
    let q = join_ranges r s in
    subst (IsKeptRange q.low q.high) (finest (nat_eq q.low q.high) q.shift e) (kept_parts q (joined_range r s wr ws))

-- what a cut leaves is a range
pub cut_range : (o : Comparison) (b : Bool) (c : ℕ) (r q : Range) → IsRange r → cut o b c r ≡ Some q → IsRange q
cut_range o b c r q w e = subst IsCutRange e (cuts_are_ranges o b c r w)

-- what is known of arithmetic on members of ranges is a range
pub computed_range : (w : Width) (o : Operation) (r s : Range) → IsRange r → IsRange s → IsRange (computed_at w o r s)
computed_range w o r s wr ws = (arithmetic_is_sound w o).ranges r s wr ws

-- what is known of a move of members of a range is a range
pub copied_range : (w : Width) (r : Range) → IsRange r → IsRange (move_range w r)
copied_range w r wr = (copies_are_sound w).ranges r wr

-- what is known of the negation of members of a range is a range
pub negative_range : (w : Width) (r : Range) → IsRange r → IsRange (negated_range w r)
negative_range w r wr = (negatives_are_sound w).ranges r wr

-- what is known of a sign extension of members of a range is a range
pub extension_range : (e : Extension) (r : Range) → IsRange r → IsRange (extended_range e r)
extension_range e r wr = (extensions_are_sound e).ranges r wr

-- what is known of a byte swap of members of a range is a range
pub swap_range : (o : ByteOrder) (w : SwapWidth) (r : Range) → IsRange r → IsRange (swapped_range o w r)
swap_range o w r wr = (swaps_are_sound o w).ranges r wr

-- what is known of a load of a number is a range
pub load_range : (a : Access) → IsRange (loaded_range a)
load_range a = (loads_are_sound a).range

-- offsets in an element of less than 2^64 bytes
range_within : (size : ℕ) (q : Range) → size < 2 ^ 64 → IsInElement size (Some q) → IsRange q × (q.high ≤ size)
range_within size q f h = (record { formed = h.0; fits = omega (arith, f, h.1) }, h.1)

-- offsets that were moved by a constant are a range up to the element's size
pub moved_within : (size : ℕ) (r q : Range) (k : ℤ) → IsRange r → size < 2 ^ 64 → offsets_plus_constant size r k ≡ Some q → IsRange q × (q.high ≤ size)
moved_within size r q k w f e = range_within size q f (subst (IsInElement size) e (moves_stay_within size r k w.formed))

-- offsets that were moved by a range of numbers are a range up to the element's size
pub advanced_within : (size : ℕ) (r s q : Range) → IsRange r → IsRange s → size < 2 ^ 64 → offsets_plus_range size r s ≡ Some q → IsRange q × (q.high ≤ size)
advanced_within size r s q wr ws f e = range_within size q f (subst (IsInElement size) e (advances_stay_within size r s wr.formed ws.formed))
