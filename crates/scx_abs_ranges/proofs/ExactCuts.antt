-- What a cut leaves takes its side, where the cut takes the rest.
use Rattle.std.proofs.Common.{◌≡◌, ℕ, ◌<◌, ◌≤◌, true, false, not, nat_lt, nat_le, ap, arith}
use Rattle.std.proofs.lemmas.Bool.{ltb-true, leb-true, lt-ltb, le-leb, eq-eqb}
use Rattle.scx_isa_semantics.specs.declared.operations.Comparison.TheVariants.{Equal, Greater, GreaterOrEqual, NotEqual, Less, LessOrEqual}
use Rattle.scx_abs_ranges.specs.Laws.{CutsAreExact}
use Rattle.scx_abs_ranges.proofs.Multiples.{by_bool}
use Rattle.scx_abs_ranges.proofs.KeptByCuts.{above_only, up_to_only}
use Rattle.scx_abs_ranges.proofs.GrowingCuts.{from_only, below_only, equal_only}

not_less : (a b : ℕ) → b ≤ a → nat_lt a b ≡ false
not_less a b l = by_bool (nat_lt a b) (λ e. let f : a < b = ltb-true a b e in absurd (omega arith)) (λ e. e)

not_up_to : (a b : ℕ) → b < a → nat_le a b ≡ false
not_up_to a b l = by_bool (nat_le a b) (λ e. let f : a ≤ b = leb-true a b e in absurd (omega arith)) (λ e. e)

-- a cut that takes the rest leaves only members for which the comparison has the answer
pub cuts_are_exact : CutsAreExact
cuts_are_exact Equal true c n r w t h = eq-eqb n c (equal_only c n r h).1
cuts_are_exact Equal false c n r w t h = absurd (cc)
cuts_are_exact NotEqual true c n r w t h = absurd (cc)
cuts_are_exact NotEqual false c n r w t h = ap not (eq-eqb n c (equal_only c n r h).1)
cuts_are_exact Greater true c n r w t h = lt-ltb c n (above_only c n r w h).1
cuts_are_exact Greater false c n r w t h = not_less c n (up_to_only c n r w h).1
cuts_are_exact GreaterOrEqual true c n r w t h = le-leb c n (from_only c n r w h).1
cuts_are_exact GreaterOrEqual false c n r w t h = not_up_to c n (below_only c n r w h).1
cuts_are_exact Less true c n r w t h = lt-ltb n c (below_only c n r w h).1
cuts_are_exact Less false c n r w t h = not_less n c (from_only c n r w h).1
cuts_are_exact LessOrEqual true c n r w t h = le-leb n c (up_to_only c n r w h).1
cuts_are_exact LessOrEqual false c n r w t h = not_up_to n c (above_only c n r w h).1
cuts_are_exact o b c n r w t h = absurd (cc)
