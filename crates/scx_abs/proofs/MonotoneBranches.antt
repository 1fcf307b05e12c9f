-- Comparisons in a state and in one that it covers.
use Rattle.std.proofs.Common.{◌≡◌, ℕ, ◌≤◌, Bool, true, false, Option, Some, None, option_map, if◌then◌else◌, refl, sym, ap, ◌∙◌, arith}
use Rattle.std.proofs.lemmas.Bool.{eqb-true, eq-eqb, both_ways}
use Rattle.scx_isa_semantics.specs.declared.instructions.Operand.{Operand}
use Rattle.scx_isa_semantics.specs.declared.operations.Width.{Width}
use Rattle.scx_isa_semantics.specs.declared.operations.Width.TheVariants.{Bits32, Bits64}
use Rattle.scx_isa_semantics.specs.declared.operations.Comparison.{Comparison}
use Rattle.scx_isa_semantics.specs.declared.registers.Register.{Register}
use Rattle.scx_isa_semantics.specs.Registers.{number}
use Rattle.scx_abs_ranges.specs.declared.ranges.Range.{Range}
use Rattle.scx_abs_ranges.specs.Ranges.{IsWellFormed, IsRange, CoversRange, trailing, single, is_single}
use Rattle.scx_abs_ranges.specs.Cuts.{cut}
use Rattle.scx_abs_ranges.specs.Laws.{CoversCut}
use Rattle.scx_abs_ranges.proofs.GrowingCuts.{cuts_grow, cuts_narrow}
use Rattle.scx_abs.specs.declared.kinds.Kind.{Kind}
use Rattle.scx_abs.specs.declared.kinds.Kind.TheVariants.{Unusable, Num, Elem, ElemOrNull, Task, TaskOrNull}
use Rattle.scx_abs.specs.declared.states.AbsState.{AbsState}
use Rattle.scx_isa_encoding.specs.Spelling.{IsOperand}
use Rattle.scx_abs.specs.Kinds.{CoversKind, IsProperKind}
use Rattle.scx_abs.specs.States.{CoversState, IsProper, kind_at, with_kind}
use Rattle.scx_isa_semantics.specs.Results.{◌>>=◌}
use Rattle.scx_abs.specs.Checks.{flows, usable, operand_kind}
use Rattle.scx_abs.specs.Rules.{null_test, if_null, if_not_null, null_test_rule, side, sides, numbers_compared, comparison_rule, jump_rule}
use Rattle.scx_abs.specs.Monotone.{PassesToo, CoversIfAny, CoversFlows}
use Rattle.scx_abs.proofs.Orders.{range_itself, kind_itself, kind_through}
use Rattle.scx_abs.proofs.Proper.{kind_is_proper}
use Rattle.scx_abs.proofs.MonotoneRegisters.{passes_then, register_covers, refined_covers, narrowed_covers, CoversUsable, operand_monotone}

null_monotone : (b a : AbsState) (r : Register) (j k : Kind) → IsProper a → CoversState b a → CoversUsable j k → CoversIfAny (if_null b (number r) j) (if_null a (number r) k)
null_monotone b a r (ElemOrNull m) (ElemOrNull n) p h g = register_covers b a r (Num (single 0)) (Num (single 0)) p h (kind_itself (Num (single 0)))
null_monotone b a r TaskOrNull TaskOrNull p h g = register_covers b a r (Num (single 0)) (Num (single 0)) p h (kind_itself (Num (single 0)))
null_monotone b a r Unusable k p h g = absurd g.0
null_monotone b a r j (ElemOrNull n) p h g = absurd g.1
null_monotone b a r j TaskOrNull p h g = absurd g.1
null_monotone b a r j k p h g = tt

-- the first byte alone covers no more than it
zero_covers : (r : Range) → IsWellFormed r → r.high ≡ 0 → CoversRange (single 0) r
zero_covers r w e =
    let ordered : r.low ≤ r.high = w.ordered in
    let low : r.low ≡ 0 = omega arith in
    let shift : r.shift ≡ 3 = w.greatest (low ∙ sym e) ∙ ap trailing low in
    record { low = omega arith; high = omega arith; shift = omega arith }

pointer_monotone : (b a : AbsState) (r : Register) (j k : Kind) → IsProper a → CoversState b a → kind_at a (number r) ≡ k → CoversUsable j k → CoversState (if_not_null b (number r) j) (if_not_null a (number r) k)
pointer_monotone b a r (ElemOrNull m) (ElemOrNull n) p h e g = register_covers b a r (Elem m (single 0)) (Elem n (single 0)) p h (g.1, range_itself (single 0))
pointer_monotone b a r (ElemOrNull m) (Elem n o) p h e g = refined_covers b a (number r) (Elem m (single 0)) h (rw e (g.1.0, zero_covers o g.3 g.1.1))
pointer_monotone b a r (ElemOrNull m) k p h e g = absurd g.1
pointer_monotone b a r TaskOrNull TaskOrNull p h e g = register_covers b a r Task Task p h tt
pointer_monotone b a r TaskOrNull Task p h e g = refined_covers b a (number r) Task h (rw e tt)
pointer_monotone b a r TaskOrNull k p h e g = absurd g.1
pointer_monotone b a r Unusable k p h e g = absurd g.0
pointer_monotone b a r j (ElemOrNull n) p h e g = absurd g.1
pointer_monotone b a r j TaskOrNull p h e g = absurd g.1
pointer_monotone b a r j k p h e g = h

tested_monotone : (b a : AbsState) (r : Register) (j k : Kind) (test : Option Bool) → IsProper a → CoversState b a → kind_at a (number r) ≡ k → CoversUsable j k
    → PassesToo CoversFlows (null_test_rule b (number r) j test) (null_test_rule a (number r) k test)
tested_monotone b a r j k None p h e g = tt
tested_monotone b a r j k (Some true) p h e g = record { on = pointer_monotone b a r j k p h e g; jump = null_monotone b a r j k p h g }
tested_monotone b a r j k (Some false) p h e g = record { on = null_monotone b a r j k p h g; jump = pointer_monotone b a r j k p h e g }

-- both are cut by the same number
side_monotone : (b a : AbsState) (d : Register) (o : Comparison) (x : Bool) (c : ℕ) (s r : Range) → IsProper a → CoversState b a → IsRange s → IsRange r → CoversRange s r
    → CoversIfAny (side b (number d) o x c s) (side a (number d) o x c r)
side_monotone b a d o x c s r p h u v g = go (cut o x c s) (cut o x c r) (cuts_grow o x c s r u v g)
  where
    go : (y z : Option Range) → CoversCut y z → CoversIfAny (option_map (λ q. with_kind b (number d) (Num q)) y) (option_map (λ q. with_kind a (number d) (Num q)) z)
    go y None k = tt
    go None (Some z) k = absurd k
    go (Some y) (Some z) k = register_covers b a d (Num y) (Num z) p h k

-- the second alone is cut
narrowed_side : (b a : AbsState) (d : Register) (o : Comparison) (x : Bool) (c : ℕ) (r : Range) → IsProper a → CoversState b a → IsRange r → kind_at a (number d) ≡ Num r → CoversIfAny (Some b) (side a (number d) o x c r)
narrowed_side b a d o x c r p h v e = go (cut o x c r) (cuts_narrow o x c r v)
  where
    here : CoversKind (kind_at b (number d)) (Num r)
    here = rw e at (h.registers (number d))

    go : (z : Option Range) → CoversCut (Some r) z → CoversIfAny (Some b) (option_map (λ q. with_kind a (number d) (Num q)) z)
    go None k = tt
    go (Some z) k = narrowed_covers b a d (Num z) p h (kind_through (kind_at b (number d)) (Num r) (Num z) here k)

sides_monotone : (b a : AbsState) (d : Register) (w : Width) (o : Comparison) (s r t q : Range) → IsProper a → CoversState b a → kind_at a (number d) ≡ Num r → IsRange s → IsRange r → CoversRange s r
    → IsRange q → CoversRange t q → CoversFlows (sides b (number d) w o s t) (sides a (number d) w o r q)
sides_monotone b a d Bits64 o s r t q p h e u v g y k = go (is_single t) (is_single q) refl refl
  where
    first : t.low ≤ q.low
    first = k.low

    second : q.low ≤ q.high
    second = y.formed.ordered

    third : q.high ≤ t.high
    third = k.high

    go : (x z : Bool) → is_single t ≡ x → is_single q ≡ z
        → CoversFlows (if x then flows (side b (number d) o false t.low s) (side b (number d) o true t.low s) else flows (Some b) (Some b))
        (if z then flows (side a (number d) o false q.low r) (side a (number d) o true q.low r) else flows (Some a) (Some a))
    go true true f i =
        let same : t.low ≡ q.low = omega (arith, first, second, third, eqb-true t.low t.high f) in
        rw same record { on = side_monotone b a d o false q.low s r p h u v g; jump = side_monotone b a d o true q.low s r p h u v g }
    go true false f i = absurd (both_ways (is_single q) i (eq-eqb q.low q.high (omega (arith, first, second, third, eqb-true t.low t.high f))))
    go false true f i = record { on = narrowed_side b a d o false q.low r p h v e; jump = narrowed_side b a d o true q.low r p h v e }
    go false false f i = record { on = h; jump = h }
sides_monotone b a d Bits32 o s r t q p h e u v g y k = record { on = h; jump = h }

numbers_monotone : (b a : AbsState) (d : Register) (w : Width) (o : Comparison) (s r : Range) (l m : Kind) → IsProper a → CoversState b a → kind_at a (number d) ≡ Num r → IsRange s → IsRange r → CoversRange s r → CoversUsable l m
    → PassesToo CoversFlows (numbers_compared b (number d) w o s l) (numbers_compared a (number d) w o r m)
numbers_monotone b a d w o s r (Num t) (Num q) p h e u v g f = sides_monotone b a d w o s r t q p h e u v g f.3 f.1
numbers_monotone b a d w o s r (Num t) m p h e u v g f = absurd f.1
numbers_monotone b a d w o s r l m p h e u v g f = tt

compared_monotone : (b a : AbsState) (r : Register) (w : Width) (o : Comparison) (test : Option Bool) (j k l m : Kind) → IsProper a → CoversState b a → kind_at a (number r) ≡ k → CoversUsable j k → CoversUsable l m
    → PassesToo CoversFlows (comparison_rule b (number r) w o test j l) (comparison_rule a (number r) w o test k m)
compared_monotone b a r w o test (Num s) (Num t) l m p h e g f = numbers_monotone b a r w o s t l m p h e g.2 g.3 g.1 f
compared_monotone b a r w o test (Num s) k l m p h e g f = absurd g.1
compared_monotone b a r w o test Unusable k l m p h e g f = absurd g.0
compared_monotone b a r w o test j (Num s) l m p h e g f = absurd g.1
compared_monotone b a r w o test j k l m p h e g f = tested_monotone b a r j k test p h e g

-- a register that may be read has the kind that is read
read_register : (j k : Kind) → CoversKind j k → IsProperKind j → IsProperKind k → PassesToo (λ x y. CoversUsable x y × (k ≡ y)) (usable j) (usable k)
read_register Unusable k h p q = tt
read_register j Unusable h p q = absurd h
read_register j k h p q = ((tt, h, p, q), refl)

-- jumps on a condition
pub jump_monotone : (b a : AbsState) (w : Width) (c : Comparison) (r : Register) (x : Operand) → IsOperand x → IsProper b → IsProper a → CoversState b a → PassesToo CoversFlows (jump_rule b w c r x) (jump_rule a w c r x)
jump_monotone b a w c r x fits q p h =
    passes_then (λ j k. CoversUsable j k × (kind_at a (number r) ≡ k)) CoversFlows (usable (kind_at b (number r))) (usable (kind_at a (number r)))
    (λ j. operand_kind b w x >>= λ k. comparison_rule b (number r) w c (null_test w c x) j k) (λ j. operand_kind a w x >>= λ k. comparison_rule a (number r) w c (null_test w c x) j k)
    (read_register (kind_at b (number r)) (kind_at a (number r)) (h.registers (number r)) (kind_is_proper b (number r) q) (kind_is_proper a (number r) p))
    (λ j k g. passes_then CoversUsable CoversFlows (operand_kind b w x) (operand_kind a w x)
    (λ l. comparison_rule b (number r) w c (null_test w c x) j l) (λ l. comparison_rule a (number r) w c (null_test w c x) k l) (operand_monotone b a w x fits q p h)
    (λ l m f. compared_monotone b a r w c (null_test w c x) j k l m p h g.1 g.0 f))
