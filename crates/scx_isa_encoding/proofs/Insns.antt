-- An instruction that is read is spelled so, and one that is spelled so is read.
use Rattle.std.proofs.Common.{if◌then◌else◌, ◌≡◌, ℕ, ◌^◌, ◌<◌, ◌≤◌, ℤ, Bool, true, false, nat_eq, Option, Some, None, Result, Ok, Err, refl, ap, subst, arith, ok_or, is_none, FitsSigned, ◌&&◌}
use Rattle.std.proofs.Common.{rules, lit<, lit≤, to_z-of_z}
use Rattle.std.proofs.lemmas.Bool.{eqb-true, eq-eqb}
use Rattle.std.specs.Int.{w16, w32, cast_signed, cast_unsigned}
use Rattle.scx_isa_encoding.specs.declared.slots.Slot.{Slot}
use Rattle.scx_isa_semantics.specs.declared.instructions.Insn.{Insn}
use Rattle.scx_isa_semantics.specs.declared.instructions.Insn.TheVariants as insn
use Rattle.scx_isa_semantics.specs.declared.instructions.Operand.{Operand}
use Rattle.scx_isa_semantics.specs.declared.instructions.Operand.TheVariants as operand
use Rattle.scx_isa_semantics.specs.declared.operations.Width.{Width}
use Rattle.scx_isa_semantics.specs.declared.operations.Width.TheVariants.{Bits32, Bits64}
use Rattle.scx_isa_semantics.specs.declared.operations.Operation.{Operation}
use Rattle.scx_isa_semantics.specs.declared.operations.Operation.TheVariants.{Add, Subtract, Multiply, Divide, SignedDivide, Or, And, Xor, ShiftLeft, ShiftRight, ShiftRightSigned, Modulo, SignedModulo, Move}
use Rattle.scx_isa_semantics.specs.declared.operations.Extension.{Extension}
use Rattle.scx_isa_semantics.specs.declared.operations.Extension.TheVariants.{Low8To32, Low16To32, Low8To64, Low16To64, Low32To64}
use Rattle.scx_isa_semantics.specs.declared.operations.ByteOrder.TheVariants.{Little, Big, Swapped}
use Rattle.scx_isa_semantics.specs.declared.operations.SwapWidth.{SwapWidth}
use Rattle.scx_isa_semantics.specs.declared.operations.SwapWidth.TheVariants as order
use Rattle.scx_isa_semantics.specs.declared.operations.Size.{Size}
use Rattle.scx_isa_semantics.specs.declared.operations.Size.TheVariants as size
use Rattle.scx_isa_semantics.specs.declared.operations.Access.{Access}
use Rattle.scx_isa_semantics.specs.declared.operations.Access.TheVariants as access
use Rattle.scx_isa_semantics.specs.declared.operations.Comparison.{Comparison}
use Rattle.scx_isa_semantics.specs.declared.operations.Comparison.TheVariants.{Equal, Greater, GreaterOrEqual, BitTest, NotEqual, SignedGreater, SignedGreaterOrEqual, Less, LessOrEqual, SignedLess, SignedLessOrEqual}
use Rattle.scx_isa_semantics.specs.declared.registers.Register.{Register}
use Rattle.scx_isa_semantics.specs.declared.registers.Register.TheVariants.{R0, R1, R2, R3, R4, R5, R6, R7, R8, R9, R10}
use Rattle.scx_isa_encoding.specs.declared.forms.Source.{Source}
use Rattle.scx_isa_encoding.specs.declared.forms.Source.TheVariants as source
use Rattle.scx_isa_encoding.specs.declared.forms.Form.{Form}
use Rattle.scx_isa_encoding.specs.declared.forms.Form.TheVariants.{Binary, Negate, ByteSwap, LoadImmediate, LoadMapReference, Load, Store, JumpIf, Goto, GotoLong, Call, Exit}
use Rattle.scx_isa_encoding.specs.declared.faults.DecodeFault.TheVariants.{UnusedField, HalfWide, BadWidth}
use Rattle.scx_isa_semantics.specs.Registers.{number, register_at}
use Rattle.scx_isa_encoding.specs.Slots.{same_slot, IsSlot}
use Rattle.scx_isa_semantics.specs.Tables.{first_with_code}
use Rattle.scx_isa_encoding.specs.Opcodes.{opcode, form, base, source_of, arithmetic_class, jump_class, store_class, source_bit, operation_code, comparison_code, size_code, access_code, form_of}
use Rattle.scx_isa_semantics.specs.Code.{is_wide}
use Rattle.scx_isa_encoding.specs.Spelling.{first_slot, second_slot, half, destination_field, source_field, offset_field, immediate_field, operation_offset, extension_offset, order_bits, operand_register, operand_immediate, IsOperand, IsInsn}
use Rattle.scx_isa_encoding.proofs.Bytes.{same_fields}
use Rattle.scx_isa_encoding.proofs.Codes.{without_offset}
use Rattle.scx_isa_semantics.specs.Results.{◌>>=◌}
use Rattle.scx_isa_encoding.specs.Reading.{register_of_field, operand_at, extensions, extension_at, binary_at, order_widths, high_half, insn_of_form, whole, insn_at}

-- ---- tools

-- the value of a step that did not fail
pub bind_ok : {A B E : Type 0} (r : Result A E) (f : A → Result B E) (y : B) → (r >>= f) ≡ Ok y → (x : A) × (r ≡ Ok x) × (f x ≡ Ok y)
bind_ok (Ok x) f y e = (x, refl, e)
bind_ok (Err d) f y e = absurd (cc)

-- an option that gave a value had it
pub ok_or_ok : {A E : Type 0} (o : Option A) (d : E) (x : A) → ok_or o d ≡ Ok x → o ≡ Some x
ok_or_ok (Some y) d x e = let same : y ≡ x = cc in ap (λ z. Some z) same
ok_or_ok None d x e = absurd (cc)

abbrev pub done : {A E : Type 0} → A → Result A E
done x = Ok x

-- results that are equal hold equal values
pub ok_is : {A E : Type 0} (x y : A) → done {E = E} x ≡ done y → x ≡ y
ok_is x y e = cc

-- both tests hold
both : (a b : Bool) → (a && b) ≡ true → (a ≡ true) × (b ≡ true)
both true b e = (refl, e)
both false b e = absurd (cc)

-- slots that the test finds the same are equal
pub is_same : (s t : Slot) → same_slot s t ≡ true → s ≡ t
is_same s t e =
    let p = both _ _ e in
    let q = both _ _ p.0 in
    let r = both _ _ q.0 in
    let u = both _ _ r.0 in
    let a : s.opcode ≡ t.opcode = eqb-true _ _ u.0 in
    let b : s.destination ≡ t.destination = eqb-true _ _ u.1 in
    let c : s.source ≡ t.source = eqb-true _ _ r.1 in
    let d : s.offset ≡ t.offset = eqb-true _ _ q.1 in
    let f : s.immediate ≡ t.immediate = eqb-true _ _ p.1 in
    same_fields t s.opcode s.destination s.source s.offset s.immediate a b c d f

-- and it finds each the same as itself
pub same_is : (s : Slot) → same_slot s s ≡ true
same_is s = rw (eq-eqb s.opcode s.opcode refl, eq-eqb s.destination s.destination refl, eq-eqb s.source s.source refl, eq-eqb s.offset s.offset refl, eq-eqb s.immediate s.immediate refl) refl

-- ---- what is read

fits_32 : (n : ℕ) → n < 2 ^ 32 → FitsSigned w32 (cast_signed w32 n)
fits_32 n h = search rules

fits_16 : (n : ℕ) → n < 2 ^ 16 → FitsSigned w16 (cast_signed w16 n)
fits_16 n h = search rules

operand_fits : (x : Source) (s : Slot) (y : Operand) → IsSlot s → operand_at x s ≡ Ok y → IsOperand y
operand_fits source.Immediate s y fits e = subst IsOperand (ok_is _ _ e) (fits_32 s.immediate fits.immediate)
operand_fits source.Register s y fits e =
    let p = bind_ok (register_of_field s.source) _ y e in
    subst IsOperand (ok_is _ _ p.2) tt

-- the number of the second half, if it is there, fits
abbrev pub HalfFits : Option Slot → Type 0
HalfFits None = Unit {0}
HalfFits (Some t) = IsSlot t

half_fits : (next : Option Slot) → HalfFits next → high_half next < 2 ^ 32
half_fits None h = omega arith
half_fits (Some t) h = h.immediate

-- what a test chooses between two instructions fits
test_fits : (b : Bool) (i j : Insn) (rest : Option Insn) → IsInsn i → (rest ≡ Some j → IsInsn j) → (if b then Some i else rest) ≡ Some j → IsInsn j
test_fits true i j rest h t e = let same : i ≡ j = cc in subst IsInsn same h
test_fits false i j rest h t e = t e

none_fits : (i : Insn) → None ≡ Some i → IsInsn i
none_fits i e = absurd (cc)

extension_fits : (w : Width) (d : Register) (x : Operand) (n : ℕ) (i : Insn) → extension_at w d x n ≡ Some i → IsInsn i
extension_fits w d (operand.Immediate k) n i e = none_fits i e
extension_fits w d (operand.Register r) n i e = go (first_with_code extension_offset (extensions w) n) refl
  where
    go : (o : Option Extension) → first_with_code extension_offset (extensions w) n ≡ o → IsInsn i
    go None t = let bad : None ≡ Some i = rw t at e in absurd (cc)
    go (Some x) t =
        let good : Some (insn.SignExtend x d r) ≡ Some i = rw t at e in
        let same : insn.SignExtend x d r ≡ i = cc in
        subst IsInsn same tt

binary_fits : (w : Width) (o : Operation) (d : Register) (x : Operand) (n : ℕ) (i : Insn) → IsOperand x → binary_at w o d x n ≡ Some i → IsInsn i
binary_fits w Divide d x n i h e = test_fits (nat_eq n 0) (insn.Binary w Divide d x) i _ h (λ t. test_fits (nat_eq n 1) (insn.Binary w SignedDivide d x) i None h (λ u. none_fits i u) t) e
binary_fits w Modulo d x n i h e = test_fits (nat_eq n 0) (insn.Binary w Modulo d x) i _ h (λ t. test_fits (nat_eq n 1) (insn.Binary w SignedModulo d x) i None h (λ u. none_fits i u) t) e
binary_fits w Move d x n i h e = test_fits (nat_eq n 0) (insn.Binary w Move d x) i _ h (λ t. extension_fits w d x n i t) e
binary_fits w o d x n i h e = let same : insn.Binary w o d x ≡ i = cc in subst IsInsn same h

abbrev Builds : Form → Type 0
Builds f = (s : Slot) (next : Option Slot) (i : Insn) → IsSlot s → HalfFits next → insn_of_form f s next ≡ Ok i → IsInsn i

-- the numbers of an instruction that is built fit their fields
builds : (f : Form) → Builds f
builds (Binary w o x) s next i fits half e =
    let p = bind_ok (register_of_field s.destination) _ i e in
    let q = bind_ok (operand_at x s) _ i p.2 in
    binary_fits w o p.0 q.0 s.offset i (operand_fits x s q.0 fits q.1) (ok_or_ok _ _ _ q.2)
builds (Negate w) s next i fits half e =
    let p = bind_ok (register_of_field s.destination) _ i e in
    subst IsInsn (ok_is _ _ p.2) tt
builds (ByteSwap o) s next i fits half e =
    let p = bind_ok (register_of_field s.destination) _ i e in
    let q = bind_ok (ok_or (first_with_code order_bits order_widths s.immediate) BadWidth) _ i p.2 in
    subst IsInsn (ok_is _ _ q.2) tt
builds LoadImmediate s next i fits half e =
    let p = bind_ok (register_of_field s.destination) _ i e in
    subst IsInsn (ok_is _ _ p.2) (fits_32 s.immediate fits.immediate, fits_32 (high_half next) (half_fits next half))
builds LoadMapReference s next i fits half e =
    let p = bind_ok (register_of_field s.destination) _ i e in
    subst IsInsn (ok_is _ _ p.2) (fits_32 s.immediate fits.immediate)
builds (Load a) s next i fits half e =
    let p = bind_ok (register_of_field s.destination) _ i e in
    let q = bind_ok (register_of_field s.source) _ i p.2 in
    subst IsInsn (ok_is _ _ q.2) (fits_16 s.offset fits.offset)
builds (Store z x) s next i fits half e =
    let p = bind_ok (register_of_field s.destination) _ i e in
    let q = bind_ok (operand_at x s) _ i p.2 in
    subst IsInsn (ok_is _ _ q.2) (fits_16 s.offset fits.offset, operand_fits x s q.0 fits q.1)
builds (JumpIf w c x) s next i fits half e =
    let p = bind_ok (register_of_field s.destination) _ i e in
    let q = bind_ok (operand_at x s) _ i p.2 in
    subst IsInsn (ok_is _ _ q.2) (fits_16 s.offset fits.offset, operand_fits x s q.0 fits q.1)
builds Goto s next i fits half e = subst IsInsn (ok_is _ _ e) (fits_16 s.offset fits.offset)
builds GotoLong s next i fits half e = subst IsInsn (ok_is _ _ e) (fits_32 s.immediate fits.immediate)
builds Call s next i fits half e = subst IsInsn (ok_is _ _ e) (fits_32 s.immediate fits.immediate)
builds Exit s next i fits half e = subst IsInsn (ok_is _ _ e) tt

-- what is wholly read
record IsWhole (s : Slot) (next : Option Slot) (i j : Insn) : Type 0 where
  slot : s ≡ first_slot i
  second : is_wide i ≡ true → is_none next ≡ false
  same : i ≡ j

whole_reads : (s : Slot) (next : Option Slot) (i j : Insn) → whole s next i ≡ Ok j → IsWhole s next i j
whole_reads s next i j e = go (same_slot s (first_slot i)) (is_wide i) (is_none next) refl refl refl
  where
    go : (a b c : Bool) → same_slot s (first_slot i) ≡ a → is_wide i ≡ b → is_none next ≡ c → IsWhole s next i j
    go false b c x y z = let bad : Err UnusedField ≡ Ok j = rw x at e in absurd (cc)
    go true true true x y z = let bad : Err HalfWide ≡ Ok j = rw (x, y, z) at e in absurd (cc)
    go true true false x y z = let good : Ok i ≡ Ok j = rw (x, y, z) at e in record { slot = is_same _ _ x; second = λ h. z; same = cc }
    go true false c x y z = let good : Ok i ≡ Ok j = rw (x, y) at e in record { slot = is_same _ _ x; second = λ h. absurd (cc); same = cc }

-- an instruction that is read from a slot is spelled by it, and has its second half where it is wide
pub record Reads (s : Slot) (next : Option Slot) (i : Insn) : Type 0 where
  pub slot : s ≡ first_slot i
  pub insn : IsInsn i
  pub second : is_wide i ≡ true → is_none next ≡ false

-- an instruction that is read from slots is the one that they spell
pub insn_is_spelled : (s : Slot) (next : Option Slot) (i : Insn) → IsSlot s → HalfFits next → insn_at s next ≡ Ok i → Reads s next i
insn_is_spelled s next i fits half e =
    let p = bind_ok (form_of s.opcode s.source) _ i e in
    let q = bind_ok (insn_of_form p.0 s next) _ i p.2 in
    let r = whole_reads s next q.0 i q.2 in
    let here : Reads s next q.0 = record { slot = r.slot; insn = builds p.0 s next q.0 fits half q.1; second = r.second } in
    subst (Reads s next) r.same here

-- arithmetic without an offset is the operation of its form
pub plainly_read : (s : Slot) (next : Option Slot) (w : Width) (o : Operation) (x : Source) (d : Register) (y : Operand)
    → form_of s.opcode s.source ≡ Ok (Binary w o x) → register_of_field s.destination ≡ Ok d → operand_at x s ≡ Ok y → s.offset ≡ 0
    → insn_at s next ≡ whole s next (insn.Binary w o d y)
plainly_read s next w o x d y f p q z = rw (f, p, q, z, without_offset w o d y) refl

-- ---- what is spelled

-- the opcode of a form is read as that form, whatever the source field
abbrev Again : Form → Type 0
Again f = (s : ℕ) → form_of (opcode f) s ≡ Ok f

each : (f : Width → Source → Form) → Again (f Bits32 source.Immediate) → Again (f Bits32 source.Register) → Again (f Bits64 source.Immediate) → Again (f Bits64 source.Register) → (w : Width) (x : Source) → Again (f w x)
each f a b c d Bits32 source.Immediate = a
each f a b c d Bits32 source.Register = b
each f a b c d Bits64 source.Immediate = c
each f a b c d Bits64 source.Register = d

binary_again : (o : Operation) (w : Width) (x : Source) → Again (Binary w (base o) x)
binary_again Add w x = each (λ w x. Binary w Add x) (λ s. refl) (λ s. refl) (λ s. refl) (λ s. refl) w x
binary_again Subtract w x = each (λ w x. Binary w Subtract x) (λ s. refl) (λ s. refl) (λ s. refl) (λ s. refl) w x
binary_again Multiply w x = each (λ w x. Binary w Multiply x) (λ s. refl) (λ s. refl) (λ s. refl) (λ s. refl) w x
binary_again Divide w x = each (λ w x. Binary w Divide x) (λ s. refl) (λ s. refl) (λ s. refl) (λ s. refl) w x
binary_again SignedDivide w x = each (λ w x. Binary w Divide x) (λ s. refl) (λ s. refl) (λ s. refl) (λ s. refl) w x
binary_again Or w x = each (λ w x. Binary w Or x) (λ s. refl) (λ s. refl) (λ s. refl) (λ s. refl) w x
binary_again And w x = each (λ w x. Binary w And x) (λ s. refl) (λ s. refl) (λ s. refl) (λ s. refl) w x
binary_again Xor w x = each (λ w x. Binary w Xor x) (λ s. refl) (λ s. refl) (λ s. refl) (λ s. refl) w x
binary_again ShiftLeft w x = each (λ w x. Binary w ShiftLeft x) (λ s. refl) (λ s. refl) (λ s. refl) (λ s. refl) w x
binary_again ShiftRight w x = each (λ w x. Binary w ShiftRight x) (λ s. refl) (λ s. refl) (λ s. refl) (λ s. refl) w x
binary_again ShiftRightSigned w x = each (λ w x. Binary w ShiftRightSigned x) (λ s. refl) (λ s. refl) (λ s. refl) (λ s. refl) w x
binary_again Modulo w x = each (λ w x. Binary w Modulo x) (λ s. refl) (λ s. refl) (λ s. refl) (λ s. refl) w x
binary_again SignedModulo w x = each (λ w x. Binary w Modulo x) (λ s. refl) (λ s. refl) (λ s. refl) (λ s. refl) w x
binary_again Move w x = each (λ w x. Binary w Move x) (λ s. refl) (λ s. refl) (λ s. refl) (λ s. refl) w x

jump_again : (c : Comparison) (w : Width) (x : Source) → Again (JumpIf w c x)
jump_again Equal w x = each (λ w x. JumpIf w Equal x) (λ s. refl) (λ s. refl) (λ s. refl) (λ s. refl) w x
jump_again Greater w x = each (λ w x. JumpIf w Greater x) (λ s. refl) (λ s. refl) (λ s. refl) (λ s. refl) w x
jump_again GreaterOrEqual w x = each (λ w x. JumpIf w GreaterOrEqual x) (λ s. refl) (λ s. refl) (λ s. refl) (λ s. refl) w x
jump_again BitTest w x = each (λ w x. JumpIf w BitTest x) (λ s. refl) (λ s. refl) (λ s. refl) (λ s. refl) w x
jump_again NotEqual w x = each (λ w x. JumpIf w NotEqual x) (λ s. refl) (λ s. refl) (λ s. refl) (λ s. refl) w x
jump_again SignedGreater w x = each (λ w x. JumpIf w SignedGreater x) (λ s. refl) (λ s. refl) (λ s. refl) (λ s. refl) w x
jump_again SignedGreaterOrEqual w x = each (λ w x. JumpIf w SignedGreaterOrEqual x) (λ s. refl) (λ s. refl) (λ s. refl) (λ s. refl) w x
jump_again Less w x = each (λ w x. JumpIf w Less x) (λ s. refl) (λ s. refl) (λ s. refl) (λ s. refl) w x
jump_again LessOrEqual w x = each (λ w x. JumpIf w LessOrEqual x) (λ s. refl) (λ s. refl) (λ s. refl) (λ s. refl) w x
jump_again SignedLess w x = each (λ w x. JumpIf w SignedLess x) (λ s. refl) (λ s. refl) (λ s. refl) (λ s. refl) w x
jump_again SignedLessOrEqual w x = each (λ w x. JumpIf w SignedLessOrEqual x) (λ s. refl) (λ s. refl) (λ s. refl) (λ s. refl) w x

load_again : (a : Access) → Again (Load a)
load_again access.Byte s = refl
load_again access.HalfWord s = refl
load_again access.Word s = refl
load_again access.DoubleWord s = refl
load_again access.SignedByte s = refl
load_again access.SignedHalfWord s = refl
load_again access.SignedWord s = refl

store_again : (z : Size) (x : Source) → Again (Store z x)
store_again size.Byte source.Immediate s = refl
store_again size.Byte source.Register s = refl
store_again size.HalfWord source.Immediate s = refl
store_again size.HalfWord source.Register s = refl
store_again size.Word source.Immediate s = refl
store_again size.Word source.Register s = refl
store_again size.DoubleWord source.Immediate s = refl
store_again size.DoubleWord source.Register s = refl

-- the form of an instruction is read from its opcode
pub form_again : (i : Insn) → form_of (opcode (form i)) (source_field i) ≡ Ok (form i)
form_again (insn.Binary w o d x) = binary_again o w (source_of x) (operand_register x)
form_again (insn.Negate Bits32 d) = refl
form_again (insn.Negate Bits64 d) = refl
form_again (insn.SignExtend Low8To32 d r) = refl
form_again (insn.SignExtend Low16To32 d r) = refl
form_again (insn.SignExtend Low8To64 d r) = refl
form_again (insn.SignExtend Low16To64 d r) = refl
form_again (insn.SignExtend Low32To64 d r) = refl
form_again (insn.ByteSwap Little w d) = refl
form_again (insn.ByteSwap Big w d) = refl
form_again (insn.ByteSwap Swapped w d) = refl
form_again (insn.LoadImmediate d low high) = refl
form_again (insn.LoadMapReference d k) = refl
form_again (insn.Load a d r offset) = load_again a (number r)
form_again (insn.Store z r offset x) = store_again z (source_of x) (operand_register x)
form_again (insn.JumpIf w c r x offset) = jump_again c w (source_of x) (operand_register x)
form_again (insn.Goto offset) = refl
form_again (insn.GotoLong offset) = refl
form_again (insn.Call k) = refl
form_again insn.Exit = refl

register_again : (r : Register) → register_at (number r) ≡ Some r
register_again R0 = refl
register_again R1 = refl
register_again R2 = refl
register_again R3 = refl
register_again R4 = refl
register_again R5 = refl
register_again R6 = refl
register_again R7 = refl
register_again R8 = refl
register_again R9 = refl
register_again R10 = refl

register_reads : (r : Register) → register_of_field (number r) ≡ Ok r
register_reads r = rw (register_again r) refl

-- a signed field gives the number back that it was written from
again_32 : (k : ℤ) → FitsSigned w32 k → cast_signed w32 (cast_unsigned w32 k) ≡ k
again_32 k h = to_z-of_z {w = w32} {z = k} h

again_16 : (k : ℤ) → FitsSigned w16 k → cast_signed w16 (cast_unsigned w16 k) ≡ k
again_16 k h = to_z-of_z {w = w16} {z = k} h

operand_again : (x : Operand) (s : Slot) → s.source ≡ operand_register x → s.immediate ≡ operand_immediate x → IsOperand x → operand_at (source_of x) s ≡ Ok x
operand_again (operand.Immediate k) s p q h = rw (q, again_32 k h) refl
operand_again (operand.Register r) s p q h = rw (p, register_again r) refl

offset_again : (w : Width) (o : Operation) (d : Register) (x : Operand) → binary_at w (base o) d x (operation_offset o) ≡ Some (insn.Binary w o d x)
offset_again w Add d x = refl
offset_again w Subtract d x = refl
offset_again w Multiply d x = refl
offset_again w Divide d x = refl
offset_again w SignedDivide d x = refl
offset_again w Or d x = refl
offset_again w And d x = refl
offset_again w Xor d x = refl
offset_again w ShiftLeft d x = refl
offset_again w ShiftRight d x = refl
offset_again w ShiftRightSigned d x = refl
offset_again w Modulo d x = refl
offset_again w SignedModulo d x = refl
offset_again w Move d x = refl

bits_again : (w : SwapWidth) → first_with_code order_bits order_widths (order_bits w) ≡ Some w
bits_again order.Bits16 = refl
bits_again order.Bits32 = refl
bits_again order.Bits64 = refl

abbrev pub Follows : Option Slot → Option Slot → Type 0
Follows None next = Unit {0}
Follows (Some t) next = next ≡ Some t

built_again : (i : Insn) (next : Option Slot) → IsInsn i → Follows (second_slot i) next → insn_of_form (form i) (first_slot i) next ≡ Ok i
built_again (insn.Binary w o d x) next h t = rw (register_again d, operand_again x (first_slot (insn.Binary w o d x)) refl refl h, offset_again w o d x) refl
built_again (insn.Negate w d) next h t = rw (register_again d) refl
built_again (insn.SignExtend Low8To32 d r) next h t = rw (register_again d, register_again r) refl
built_again (insn.SignExtend Low16To32 d r) next h t = rw (register_again d, register_again r) refl
built_again (insn.SignExtend Low8To64 d r) next h t = rw (register_again d, register_again r) refl
built_again (insn.SignExtend Low16To64 d r) next h t = rw (register_again d, register_again r) refl
built_again (insn.SignExtend Low32To64 d r) next h t = rw (register_again d, register_again r) refl
built_again (insn.ByteSwap o w d) next h t = rw (register_again d, bits_again w) refl
built_again (insn.LoadImmediate d low high) next h t = rw (register_again d, t, again_32 low h.0, again_32 high h.1) refl
built_again (insn.LoadMapReference d k) next h t = rw (register_again d, again_32 k h) refl
built_again (insn.Load a d r offset) next h t = rw (register_again d, register_again r, again_16 offset h) refl
built_again (insn.Store z r offset x) next h t = rw (register_again r, operand_again x (first_slot (insn.Store z r offset x)) refl refl h.1, again_16 offset h.0) refl
built_again (insn.JumpIf w c r x offset) next h t = rw (register_again r, operand_again x (first_slot (insn.JumpIf w c r x offset)) refl refl h.1, again_16 offset h.0) refl
built_again (insn.Goto offset) next h t = rw (again_16 offset h) refl
built_again (insn.GotoLong offset) next h t = rw (again_32 offset h) refl
built_again (insn.Call k) next h t = rw (again_32 k h) refl
built_again insn.Exit next h t = refl

-- whether the second half that is due is there
has_second : (i : Insn) (next : Option Slot) → Follows (second_slot i) next → (is_wide i && is_none next) ≡ false
has_second (insn.LoadImmediate d low high) next t = rw t refl
has_second (insn.LoadMapReference d k) next t = rw t refl
has_second i next t = refl

whole_again : (i : Insn) (next : Option Slot) → Follows (second_slot i) next → whole (first_slot i) next i ≡ Ok i
whole_again i next t = rw (same_is (first_slot i), has_second i next t) refl

-- the slots that spell an instruction are read as it
pub insn_is_read : (i : Insn) (next : Option Slot) → IsInsn i → Follows (second_slot i) next → insn_at (first_slot i) next ≡ Ok i
insn_is_read i next h t = rw (form_again i, built_again i next h t) (whole_again i next t)

-- ---- slots of instructions

low_32 : (k : ℤ) → FitsSigned w32 k → cast_unsigned w32 k < 2 ^ 32
low_32 k h = search rules

low_16 : (k : ℤ) → FitsSigned w16 k → cast_unsigned w16 k < 2 ^ 16
low_16 k h = search rules

arithmetic_class_le : (w : Width) → arithmetic_class w ≤ 7
arithmetic_class_le Bits32 = lit≤ tt
arithmetic_class_le Bits64 = lit≤ tt

jump_class_le : (w : Width) → jump_class w ≤ 6
jump_class_le Bits32 = lit≤ tt
jump_class_le Bits64 = lit≤ tt

store_class_le : (x : Source) → store_class x ≤ 3
store_class_le source.Immediate = lit≤ tt
store_class_le source.Register = lit≤ tt

source_le : (x : Source) → source_bit x ≤ 8
source_le source.Immediate = lit≤ tt
source_le source.Register = lit≤ tt

operation_le : (o : Operation) → operation_code o ≤ 12
operation_le Add = lit≤ tt
operation_le Subtract = lit≤ tt
operation_le Multiply = lit≤ tt
operation_le Divide = lit≤ tt
operation_le SignedDivide = lit≤ tt
operation_le Or = lit≤ tt
operation_le And = lit≤ tt
operation_le Xor = lit≤ tt
operation_le ShiftLeft = lit≤ tt
operation_le ShiftRight = lit≤ tt
operation_le ShiftRightSigned = lit≤ tt
operation_le Modulo = lit≤ tt
operation_le SignedModulo = lit≤ tt
operation_le Move = lit≤ tt

comparison_le : (c : Comparison) → comparison_code c ≤ 13
comparison_le Equal = lit≤ tt
comparison_le Greater = lit≤ tt
comparison_le GreaterOrEqual = lit≤ tt
comparison_le BitTest = lit≤ tt
comparison_le NotEqual = lit≤ tt
comparison_le SignedGreater = lit≤ tt
comparison_le SignedGreaterOrEqual = lit≤ tt
comparison_le Less = lit≤ tt
comparison_le LessOrEqual = lit≤ tt
comparison_le SignedLess = lit≤ tt
comparison_le SignedLessOrEqual = lit≤ tt

size_le : (z : Size) → size_code z ≤ 120
size_le size.Byte = lit≤ tt
size_le size.HalfWord = lit≤ tt
size_le size.Word = lit≤ tt
size_le size.DoubleWord = lit≤ tt

access_le : (a : Access) → access_code a ≤ 144
access_le access.Byte = lit≤ tt
access_le access.HalfWord = lit≤ tt
access_le access.Word = lit≤ tt
access_le access.DoubleWord = lit≤ tt
access_le access.SignedByte = lit≤ tt
access_le access.SignedHalfWord = lit≤ tt
access_le access.SignedWord = lit≤ tt

opcode_lt : (f : Form) → opcode f < 256
opcode_lt (Binary w o x) = omega (arith, arithmetic_class_le w, source_le x, operation_le o)
opcode_lt (Negate Bits32) = lit< tt
opcode_lt (Negate Bits64) = lit< tt
opcode_lt (ByteSwap Little) = lit< tt
opcode_lt (ByteSwap Big) = lit< tt
opcode_lt (ByteSwap Swapped) = lit< tt
opcode_lt LoadImmediate = lit< tt
opcode_lt LoadMapReference = lit< tt
opcode_lt (Load a) = omega (arith, access_le a)
opcode_lt (Store z x) = omega (arith, size_le z, store_class_le x)
opcode_lt (JumpIf w c x) = omega (arith, jump_class_le w, source_le x, comparison_le c)
opcode_lt Goto = lit< tt
opcode_lt GotoLong = lit< tt
opcode_lt Call = lit< tt
opcode_lt Exit = lit< tt

-- numbers of registers are below 11
pub number_lt : (r : Register) → number r < 11
number_lt R0 = lit< tt
number_lt R1 = lit< tt
number_lt R2 = lit< tt
number_lt R3 = lit< tt
number_lt R4 = lit< tt
number_lt R5 = lit< tt
number_lt R6 = lit< tt
number_lt R7 = lit< tt
number_lt R8 = lit< tt
number_lt R9 = lit< tt
number_lt R10 = lit< tt

register_lt : (r : Register) → number r < 16
register_lt r = omega (arith, number_lt r)

operand_register_lt : (x : Operand) → operand_register x < 16
operand_register_lt (operand.Immediate k) = lit< tt
operand_register_lt (operand.Register r) = register_lt r

destination_lt : (i : Insn) → destination_field i < 16
destination_lt (insn.Binary w o d x) = register_lt d
destination_lt (insn.Negate w d) = register_lt d
destination_lt (insn.SignExtend e d r) = register_lt d
destination_lt (insn.ByteSwap o w d) = register_lt d
destination_lt (insn.LoadImmediate d low high) = register_lt d
destination_lt (insn.LoadMapReference d k) = register_lt d
destination_lt (insn.Load a d r offset) = register_lt d
destination_lt (insn.Store z r offset x) = register_lt r
destination_lt (insn.JumpIf w c r x offset) = register_lt r
destination_lt i = lit< tt

source_lt : (i : Insn) → source_field i < 16
source_lt (insn.Binary w o d x) = operand_register_lt x
source_lt (insn.SignExtend e d r) = register_lt r
source_lt (insn.LoadMapReference d k) = lit< tt
source_lt (insn.Load a d r offset) = register_lt r
source_lt (insn.Store z r offset x) = operand_register_lt x
source_lt (insn.JumpIf w c r x offset) = operand_register_lt x
source_lt i = lit< tt

operation_offset_lt : (o : Operation) → operation_offset o < 2 ^ 16
operation_offset_lt SignedDivide = lit< tt
operation_offset_lt SignedModulo = lit< tt
operation_offset_lt o = lit< tt

extension_offset_lt : (e : Extension) → extension_offset e < 2 ^ 16
extension_offset_lt Low8To32 = lit< tt
extension_offset_lt Low16To32 = lit< tt
extension_offset_lt Low8To64 = lit< tt
extension_offset_lt Low16To64 = lit< tt
extension_offset_lt Low32To64 = lit< tt

offset_lt : (i : Insn) → IsInsn i → offset_field i < 2 ^ 16
offset_lt (insn.Binary w o d x) h = operation_offset_lt o
offset_lt (insn.SignExtend e d r) h = extension_offset_lt e
offset_lt (insn.Load a d r offset) h = low_16 offset h
offset_lt (insn.Store z r offset x) h = low_16 offset h.0
offset_lt (insn.JumpIf w c r x offset) h = low_16 offset h.0
offset_lt (insn.Goto offset) h = low_16 offset h
offset_lt i h = lit< tt

operand_immediate_lt : (x : Operand) → IsOperand x → operand_immediate x < 2 ^ 32
operand_immediate_lt (operand.Immediate k) h = low_32 k h
operand_immediate_lt (operand.Register r) h = lit< tt

order_bits_lt : (w : SwapWidth) → order_bits w < 2 ^ 32
order_bits_lt order.Bits16 = lit< tt
order_bits_lt order.Bits32 = lit< tt
order_bits_lt order.Bits64 = lit< tt

immediate_lt : (i : Insn) → IsInsn i → immediate_field i < 2 ^ 32
immediate_lt (insn.Binary w o d x) h = operand_immediate_lt x h
immediate_lt (insn.ByteSwap o w d) h = order_bits_lt w
immediate_lt (insn.LoadImmediate d low high) h = low_32 low h.0
immediate_lt (insn.LoadMapReference d k) h = low_32 k h
immediate_lt (insn.Store z r offset x) h = operand_immediate_lt x h.1
immediate_lt (insn.JumpIf w c r x offset) h = operand_immediate_lt x h.1
immediate_lt (insn.GotoLong offset) h = low_32 offset h
immediate_lt (insn.Call k) h = low_32 k h
immediate_lt i h = lit< tt

-- the first slot of an instruction fits its fields
pub first_is_slot : (i : Insn) → IsInsn i → IsSlot (first_slot i)
first_is_slot i h = record {
  opcode = opcode_lt (form i);
  destination = destination_lt i;
  source = source_lt i;
  offset = offset_lt i h;
  immediate = immediate_lt i h;
}

half_is_slot : (k : ℕ) → k < 2 ^ 32 → IsSlot (half k)
half_is_slot k h = record { opcode = lit< tt; destination = lit< tt; source = lit< tt; offset = lit< tt; immediate = h }

-- and so does the second
pub second_is_slot : (i : Insn) → IsInsn i → HalfFits (second_slot i)
second_is_slot (insn.LoadImmediate d low high) h = half_is_slot (cast_unsigned w32 high) (low_32 high h.1)
second_is_slot (insn.LoadMapReference d k) h = half_is_slot 0 (lit< tt)
second_is_slot i h = tt
