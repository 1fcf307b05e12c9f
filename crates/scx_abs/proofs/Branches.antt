-- Comparisons: two numbers go both ways, where a single one cuts the others, and a test for 0 tells on
-- each side what a pointer is.
use Rattle.std.proofs.Common.{◌≡◌, ℕ, ◌≤◌, ℤ, pos, negsuc, unsigned_abs, Bool, true, false, not, nat_eq, List, Option, Some, None, option_map, Ok, if◌then◌else◌, refl, sym, ap, ◌∙◌, subst, arith}
use Rattle.std.proofs.lemmas.Bool.{eqb-true, eq-eqb}
use Rattle.scx_isa_semantics.specs.declared.instructions.Operand.{Operand}
use Rattle.scx_isa_semantics.specs.declared.instructions.Operand.TheVariants as operand
use Rattle.scx_isa_semantics.specs.declared.operations.Width.{Width}
use Rattle.scx_isa_semantics.specs.declared.operations.Width.TheVariants.{Bits32, Bits64}
use Rattle.scx_isa_semantics.specs.declared.operations.Comparison.{Comparison}
use Rattle.scx_isa_semantics.specs.declared.operations.Comparison.TheVariants.{Equal, NotEqual}
use Rattle.scx_isa_semantics.specs.declared.values.Value.{Value}
use Rattle.scx_isa_semantics.specs.declared.values.Value.TheVariants as value
use Rattle.scx_isa_semantics.specs.declared.values.Pointer as pointers
use Rattle.scx_isa_semantics.specs.declared.values.Pointer.TheVariants as pointer
use Rattle.scx_isa_semantics.specs.declared.registers.Register.{Register}
use Rattle.scx_isa_semantics.specs.Registers.{number}
use Rattle.scx_isa_semantics.specs.Arithmetic.{immediate, compares}
use Rattle.scx_isa_semantics.specs.Elements.{Maps}
use Rattle.scx_isa_semantics.specs.Machine.{Machine}
use Rattle.scx_isa_semantics.specs.Effects.{branch}
use Rattle.scx_isa_semantics.specs.Meaning.{operand_value, numbers_compared, comparison_answer}
use Rattle.scx_isa_encoding.specs.Spelling.{IsOperand}
use Rattle.scx_maps.specs.declared.shape.Shape.{Shape}
use Rattle.scx_abs_ranges.specs.declared.ranges.Range.{Range}
use Rattle.scx_abs_ranges.specs.Ranges.{IsIn, IsRange, single, is_single}
use Rattle.scx_abs_ranges.specs.Cuts.{cut}
use Rattle.scx_abs_ranges.specs.Laws.{IsInCut}
use Rattle.scx_abs_ranges.proofs.Multiples.{in_single}
use Rattle.scx_abs_ranges.proofs.KeptByCuts.{cuts_keep}
use Rattle.scx_abs.specs.declared.kinds.Kind.{Kind}
use Rattle.scx_abs.specs.declared.kinds.Kind.TheVariants.{Unusable, Num, Elem, ElemOrNull, Task, TaskOrNull}
use Rattle.scx_abs.specs.declared.states.AbsState.{AbsState}
use Rattle.scx_abs.specs.Kinds.{IsProperKind, IsUsable}
use Rattle.scx_abs.specs.States.{kind_at, with_kind, IsProper}
use Rattle.scx_abs.specs.Stands.{Stands, IsMember}
use Rattle.scx_isa_semantics.specs.Results.{◌>>=◌}
use Rattle.scx_abs.specs.Checks.{flows, usable, operand_kind}
use Rattle.scx_abs.specs.Rules as rules
use Rattle.scx_abs.specs.Rules.{null_test, if_null, if_not_null, null_test_rule, side, sides, jump_rule}
use Rattle.scx_abs.specs.Laws.{Receives, IsSoundFor}
use Rattle.scx_abs.proofs.Registers.{register_allows, operand_allows, checked, refined}

both_ways : (shapes : List Shape) (a : AbsState) (m : Machine) (b : Bool) → IsMember shapes a m → IsSoundFor shapes (Ok (flows (Some a) (Some a))) (branch m (Some b))
both_ways shapes a m true h = h
both_ways shapes a m false h = h

-- the side with the comparison's answer
side_receives : (shapes : List Shape) (a : AbsState) (m : Machine) (r : ℕ) (o : Comparison) (b : Bool) (c n : ℕ) (s : Range) → IsMember shapes a m → m.registers r ≡ value.Number n → IsRange s → IsIn n s
    → compares Bits64 o n c ≡ b → Receives shapes (side a r o b c s) m
side_receives shapes a m r o b c n s h e p i t = go (cut o b c s) (cuts_keep o b c n s p i t)
  where
    go : (u : Option Range) → IsInCut n u → Receives shapes (option_map (λ q. with_kind a r (Num q)) u) m
    go None k = absurd k
    go (Some q) k = refined shapes a m r (Num q) h (rw e k)

single_is : (t : Range) (n : ℕ) → is_single t ≡ true → IsIn n t → n ≡ t.low
single_is t n e i =
    let same : t.low ≡ t.high = eqb-true t.low t.high e in
    let above : t.low ≤ n = i.from_low in
    let below : n ≤ t.high = i.to_high in
    omega arith

sides_sound : (shapes : List Shape) (a : AbsState) (m : Machine) (r : ℕ) (w : Width) (o : Comparison) (n b : ℕ) (s t : Range) → IsMember shapes a m → m.registers r ≡ value.Number n → IsRange s → IsIn n s → IsIn b t
    → IsSoundFor shapes (Ok (sides a r w o s t)) (branch m (Some (compares w o n b)))
sides_sound shapes a m r Bits64 o n b s t h e p i k = go (is_single t) refl
  where
    by_answer : (x : Bool) → compares Bits64 o n t.low ≡ x → IsSoundFor shapes (Ok (flows (side a r o false t.low s) (side a r o true t.low s))) (branch m (Some x))
    by_answer true f = side_receives shapes a m r o true t.low n s h e p i f
    by_answer false f = side_receives shapes a m r o false t.low n s h e p i f

    go : (x : Bool) → is_single t ≡ x → IsSoundFor shapes (Ok (if x then flows (side a r o false t.low s) (side a r o true t.low s) else flows (Some a) (Some a))) (branch m (Some (compares Bits64 o n b)))
    go true f =
        let same : compares Bits64 o n b ≡ compares Bits64 o n t.low = ap (compares Bits64 o n) (single_is t b f k) in
        rw same (by_answer (compares Bits64 o n t.low) refl)
    go false f = both_ways shapes a m (compares Bits64 o n b) h
sides_sound shapes a m r Bits32 o n b s t h e p i k = both_ways shapes a m (compares Bits32 o n b) h

numbers_sound : (shapes : List Shape) (a : AbsState) (m : Machine) (r : ℕ) (w : Width) (c : Comparison) (n : ℕ) (s : Range) (k : Kind) (v : Value) → IsMember shapes a m → m.registers r ≡ value.Number n → IsRange s → IsIn n s
    → Stands m.maps k v → IsSoundFor shapes (rules.numbers_compared a r w c s k) (branch m (numbers_compared w c n v))
numbers_sound shapes a m r w c n s (Num t) (value.Number b) h e p i g = sides_sound shapes a m r w c n b s t h e p i g
numbers_sound shapes a m r w c n s (Num t) v h e p i g = absurd g
numbers_sound shapes a m r w c n s k v h e p i g = tt

zero_in : (n : ℕ) → n ≡ 0 → IsIn n (single 0)
zero_in n e = subst (λ k. IsIn k (single 0)) (sym e) (in_single 0)

abbrev IsPointerKind : Kind → Type 0
IsPointerKind Unusable = ⊥
IsPointerKind (Num r) = ⊥
IsPointerKind k = Unit {0}

-- a pointer that may be null and is the number 0
is_null : (maps : Maps) (j : Kind) (n : ℕ) → IsPointerKind j → Stands maps j (value.Number n) → n ≡ 0
is_null maps (ElemOrNull m) n u h = h
is_null maps TaskOrNull n u h = h
is_null maps Unusable n u h = absurd u
is_null maps (Num r) n u h = absurd u
is_null maps j n u h = absurd h

null_side : (shapes : List Shape) (a : AbsState) (m : Machine) (r : ℕ) (j : Kind) (n : ℕ) → IsMember shapes a m → IsPointerKind j → m.registers r ≡ value.Number n → Stands m.maps j (value.Number n) → Receives shapes (if_null a r j) m
null_side shapes a m r (ElemOrNull i) n h u e g = refined shapes a m r (Num (single 0)) h (rw e (zero_in n g))
null_side shapes a m r TaskOrNull n h u e g = refined shapes a m r (Num (single 0)) h (rw e (zero_in n g))
null_side shapes a m r Unusable n h u e g = absurd u
null_side shapes a m r (Num s) n h u e g = absurd u
null_side shapes a m r j n h u e g = absurd g

pointer_side : (shapes : List Shape) (a : AbsState) (m : Machine) (r : ℕ) (j : Kind) (p : pointers.Pointer) → IsMember shapes a m → m.registers r ≡ value.Pointer p → Stands m.maps j (value.Pointer p) → IsMember shapes (if_not_null a r j) m
pointer_side shapes a m r (ElemOrNull i) (pointer.Element k n o) h e g = refined shapes a m r (Elem i (single 0)) h (rw e (g.0, zero_in o (sym g.1), g.2))
pointer_side shapes a m r (ElemOrNull i) p h e g = absurd g
pointer_side shapes a m r TaskOrNull (pointer.Task t) h e g = refined shapes a m r Task h (rw e tt)
pointer_side shapes a m r TaskOrNull p h e g = absurd g
pointer_side shapes a m r j p h e g = h

zero_immediate : (k : ℤ) → unsigned_abs k ≡ 0 → immediate Bits64 k ≡ 0
zero_immediate (pos n) e = rw e refl
zero_immediate (negsuc n) e = absurd (omega arith)

equal_sound : (shapes : List Shape) (a : AbsState) (m : Machine) (r : ℕ) (j : Kind) (k : ℤ) (v : Value) → IsMember shapes a m → IsPointerKind j → m.registers r ≡ v → Stands m.maps j v
    → IsSoundFor shapes (null_test_rule a r j (null_test Bits64 Equal (operand.Immediate k))) (branch m (comparison_answer m Bits64 Equal v (operand.Immediate k)))
equal_sound shapes a m r j k value.Unset h u e g = unset j u g
  where
    unset : (i : Kind) → IsPointerKind i → Stands m.maps i value.Unset → IsSoundFor shapes (null_test_rule a r j (null_test Bits64 Equal (operand.Immediate k))) (branch m (comparison_answer m Bits64 Equal value.Unset (operand.Immediate k)))
    unset Unusable u g = absurd u
    unset i u g = absurd g
equal_sound shapes a m r j k (value.Number n) h u e g = go (nat_eq (unsigned_abs k) 0) refl
  where
    go : (b : Bool) → nat_eq (unsigned_abs k) 0 ≡ b → IsSoundFor shapes (null_test_rule a r j (if b then Some true else None)) (branch m (Some (nat_eq n (immediate Bits64 k))))
    go true t =
        let same : nat_eq n (immediate Bits64 k) ≡ true = eq-eqb n (immediate Bits64 k) (is_null m.maps j n u g ∙ sym (zero_immediate k (eqb-true (unsigned_abs k) 0 t))) in
        rw same (null_side shapes a m r j n h u e g)
    go false t = tt
equal_sound shapes a m r j k (value.Pointer p) h u e g =
    elim (nat_eq (unsigned_abs k) 0) as (λ b. IsSoundFor shapes (null_test_rule a r j (if b then Some true else None)) (branch m (if b then Some false else None)))
    [ true ↦ pointer_side shapes a m r j p h e g | false ↦ tt ]

not_equal_sound : (shapes : List Shape) (a : AbsState) (m : Machine) (r : ℕ) (j : Kind) (k : ℤ) (v : Value) → IsMember shapes a m → IsPointerKind j → m.registers r ≡ v → Stands m.maps j v
    → IsSoundFor shapes (null_test_rule a r j (null_test Bits64 NotEqual (operand.Immediate k))) (branch m (comparison_answer m Bits64 NotEqual v (operand.Immediate k)))
not_equal_sound shapes a m r j k value.Unset h u e g = unset j u g
  where
    unset : (i : Kind) → IsPointerKind i → Stands m.maps i value.Unset → IsSoundFor shapes (null_test_rule a r j (null_test Bits64 NotEqual (operand.Immediate k))) (branch m (comparison_answer m Bits64 NotEqual value.Unset (operand.Immediate k)))
    unset Unusable u g = absurd u
    unset i u g = absurd g
not_equal_sound shapes a m r j k (value.Number n) h u e g = go (nat_eq (unsigned_abs k) 0) refl
  where
    go : (b : Bool) → nat_eq (unsigned_abs k) 0 ≡ b → IsSoundFor shapes (null_test_rule a r j (if b then Some false else None)) (branch m (Some (not (nat_eq n (immediate Bits64 k)))))
    go true t =
        let same : nat_eq n (immediate Bits64 k) ≡ true = eq-eqb n (immediate Bits64 k) (is_null m.maps j n u g ∙ sym (zero_immediate k (eqb-true (unsigned_abs k) 0 t))) in
        rw same (null_side shapes a m r j n h u e g)
    go false t = tt
not_equal_sound shapes a m r j k (value.Pointer p) h u e g =
    elim (nat_eq (unsigned_abs k) 0) as (λ b. IsSoundFor shapes (null_test_rule a r j (if b then Some false else None)) (branch m (if b then Some true else None)))
    [ true ↦ pointer_side shapes a m r j p h e g | false ↦ tt ]

test_sound : (shapes : List Shape) (a : AbsState) (m : Machine) (r : ℕ) (w : Width) (c : Comparison) (x : Operand) (j : Kind) (v : Value) → IsMember shapes a m → IsPointerKind j → m.registers r ≡ v → Stands m.maps j v
    → IsSoundFor shapes (null_test_rule a r j (null_test w c x)) (branch m (comparison_answer m w c v x))
test_sound shapes a m r Bits64 Equal (operand.Immediate k) j v h u e g = equal_sound shapes a m r j k v h u e g
test_sound shapes a m r Bits64 NotEqual (operand.Immediate k) j v h u e g = not_equal_sound shapes a m r j k v h u e g
test_sound shapes a m r w c x j v h u e g = tt

compare_sound : (shapes : List Shape) (a : AbsState) (m : Machine) (r : ℕ) (w : Width) (c : Comparison) (x : Operand) (j k : Kind) (v : Value) → IsMember shapes a m → IsUsable j → IsProperKind j → m.registers r ≡ v → Stands m.maps j v
    → Stands m.maps k (operand_value m w x) → IsSoundFor shapes (rules.comparison_rule a r w c (null_test w c x) j k) (branch m (comparison_answer m w c v x))
compare_sound shapes a m r w c x (Num s) k (value.Number n) h u p e g f = numbers_sound shapes a m r w c n s k (operand_value m w x) h e p g f
compare_sound shapes a m r w c x (Num s) k v h u p e g f = absurd g
compare_sound shapes a m r w c x Unusable k v h u p e g f = absurd u
compare_sound shapes a m r w c x j k v h u p e g f = test_sound shapes a m r w c x j v h tt e g

-- the rule of jumps on a condition is sound
pub jump_sound : (shapes : List Shape) (a : AbsState) (m : Machine) (w : Width) (c : Comparison) (r : Register) (x : Operand) → IsOperand x → IsProper a → IsMember shapes a m
    → IsSoundFor shapes (jump_rule a w c r x) (branch m (comparison_answer m w c (m.registers (number r)) x))
jump_sound shapes a m w c r x fits p h =
    checked m.maps (usable (kind_at a (number r))) (m.registers (number r)) (λ j. operand_kind a w x >>= λ k. rules.comparison_rule a (number r) w c (null_test w c x) j k)
    (λ res. IsSoundFor shapes res (branch m (comparison_answer m w c (m.registers (number r)) x))) (λ why. tt)
    (register_allows shapes a m r p h)
    (λ j uj pj hj. checked m.maps (operand_kind a w x) (operand_value m w x) (λ k. rules.comparison_rule a (number r) w c (null_test w c x) j k)
    (λ res. IsSoundFor shapes res (branch m (comparison_answer m w c (m.registers (number r)) x))) (λ why. tt) (operand_allows shapes a m w x fits p h)
    (λ k uk pk hk. compare_sound shapes a m (number r) w c x j k (m.registers (number r)) h uj pj refl hj hk))

-- ---- comparisons with a constant

-- a 64-bit comparison of a number with a constant tells on each side which the register's are
pub constant_compared : (a : AbsState) (o : Comparison) (r : Register) (k : ℤ) (c : ℕ) (s : Range) → kind_at a (number r) ≡ Num s → c ≡ immediate Bits64 k
    → jump_rule a Bits64 o r (operand.Immediate k) ≡ Ok (flows (side a (number r) o false c s) (side a (number r) o true c s))
constant_compared a o r k c s e f =
    let n = immediate Bits64 k in
    subst (λ c. jump_rule a Bits64 o r (operand.Immediate k) ≡ Ok (flows (side a (number r) o false c s) (side a (number r) o true c s))) (sym f)
    (ap (λ j. usable j >>= (λ j. rules.comparison_rule a (number r) Bits64 o (null_test Bits64 o (operand.Immediate k)) j (Num (single n)))) e
    ∙ ap (λ b. Ok (if b then flows (side a (number r) o false n s) (side a (number r) o true n s) else flows (Some a) (Some a))) (eq-eqb n n refl))
