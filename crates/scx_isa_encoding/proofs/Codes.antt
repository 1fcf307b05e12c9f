-- The opcode of a form that is read is the one that it was read from.
use Rattle.std.proofs.Common.{if◌then◌else◌, ◌≡◌, ℕ, zero, suc, ◌<◌, Bool, true, false, nat_eq, ◌&&◌, List, [], ◌∷◌, Some, Result, Ok, Err, refl, ap, subst, arith, IfOk}
use Rattle.std.proofs.lemmas.Bool.{eqb-true, eq-eqb}
use Rattle.scx_isa_semantics.specs.declared.operations.Width.{Width}
use Rattle.scx_isa_semantics.specs.declared.operations.Operation.{Operation}
use Rattle.scx_isa_semantics.specs.declared.operations.Operation.TheVariants.{Add, Subtract, Multiply, Divide, SignedDivide, Or, And, Xor, ShiftLeft, ShiftRight, ShiftRightSigned, Modulo, SignedModulo, Move}
use Rattle.scx_isa_semantics.specs.declared.registers.Register.{Register}
use Rattle.scx_isa_semantics.specs.declared.instructions.Operand.{Operand}
use Rattle.scx_isa_semantics.specs.declared.instructions.Insn.TheVariants as insn
use Rattle.scx_isa_encoding.specs.Reading.{binary_at}
use Rattle.scx_isa_encoding.specs.declared.forms.Source.{Source}
use Rattle.scx_isa_encoding.specs.declared.forms.Form.{Form}
use Rattle.scx_isa_encoding.specs.declared.forms.Form.TheVariants.{Binary}
use Rattle.scx_isa_encoding.specs.declared.faults.DecodeFault.{DecodeFault}
use Rattle.scx_isa_encoding.specs.Opcodes.{opcode, base, operation_code, arithmetic_class, source_bit, form_of, wide_form, call_form, plain_form}

-- ---- signed operations

base_has_code : (o : Operation) → operation_code (base o) ≡ operation_code o
base_has_code Add = refl
base_has_code Subtract = refl
base_has_code Multiply = refl
base_has_code Divide = refl
base_has_code SignedDivide = refl
base_has_code Or = refl
base_has_code And = refl
base_has_code Xor = refl
base_has_code ShiftLeft = refl
base_has_code ShiftRight = refl
base_has_code ShiftRightSigned = refl
base_has_code Modulo = refl
base_has_code SignedModulo = refl
base_has_code Move = refl

-- signed division has the opcode of the unsigned one
pub base_has_opcode : (w : Width) (o : Operation) (x : Source) → opcode (Binary w (base o) x) ≡ opcode (Binary w o x)
base_has_opcode w o x = rw (base_has_code o) refl

-- an operation without an offset is the one of the form
pub without_offset : (w : Width) (o : Operation) (d : Register) (x : Operand) → binary_at w o d x 0 ≡ Some (insn.Binary w o d x)
without_offset w Add d x = refl
without_offset w Subtract d x = refl
without_offset w Multiply d x = refl
without_offset w Divide d x = refl
without_offset w SignedDivide d x = refl
without_offset w Or d x = refl
without_offset w And d x = refl
without_offset w Xor d x = refl
without_offset w ShiftLeft d x = refl
without_offset w ShiftRight d x = refl
without_offset w ShiftRightSigned d x = refl
without_offset w Modulo d x = refl
without_offset w SignedModulo d x = refl
without_offset w Move d x = refl

-- ---- all opcodes

-- whether what is read from an opcode has it, if it is a form
abbrev is_read : ℕ → Result Form DecodeFault → Bool
is_read n (Ok f) = nat_eq n (opcode f)
is_read n (Err d) = true

abbrev HasCode : ℕ → Result Form DecodeFault → Type 0
HasCode n r = IfOk r (λ f. n ≡ opcode f)

has_code : (n : ℕ) (r : Result Form DecodeFault) → is_read n r ≡ true → HasCode n r
has_code n (Ok f) e = eqb-true _ _ e
has_code n (Err d) e = tt

-- what holds of all numbers below one
abbrev all_below : ℕ → (ℕ → Bool) → Bool
all_below zero p = true
all_below (suc n) p = p n && all_below n p

both : (a b : Bool) → (a && b) ≡ true → (a ≡ true) × (b ≡ true)
both true b e = (refl, e)
both false b e = absurd (cc)

is_below : (m n : ℕ) → m < suc n → nat_eq m n ≡ false → m < n
is_below m n h e =
    let other : (m ≡ n → ⊥) = λ s. let bad : nat_eq m n ≡ true = eq-eqb m n s in absurd (cc) in
    omega (arith, h, other)

-- it holds of one of them
one_below : (n : ℕ) (p : ℕ → Bool) (m : ℕ) (b : Bool) → nat_eq m n ≡ b → p n ≡ true → (nat_eq m n ≡ false → p m ≡ true) → p m ≡ true
one_below n p m true e last rest = let same : m ≡ n = eqb-true m n e in rw same last
one_below n p m false e last rest = rest e

-- it holds of a number below
pub holds_below : (n : ℕ) (p : ℕ → Bool) (m : ℕ) → m < n → all_below n p ≡ true → p m ≡ true
holds_below zero p m h e = absurd (omega arith)
holds_below (suc n) p m h e =
    let now = both (p n) (all_below n p) e in
    one_below n p m (nat_eq m n) refl now.0 (λ t. holds_below n p m (is_below m n h t) now.1)

plain_is_read : (n : ℕ) → n < 256 → is_read n (plain_form n) ≡ true
plain_is_read n h = holds_below 256 (λ m. is_read m (plain_form m)) n h refl

wide_is_read : (s : ℕ) → is_read 0x18 (wide_form s) ≡ true
wide_is_read s = go (nat_eq s 0) (nat_eq s 1) (nat_eq s 2) (nat_eq s 3) (nat_eq s 4) (nat_eq s 5) (nat_eq s 6) refl refl refl refl refl refl refl
  where
    go : (a b c d e f g : Bool) → nat_eq s 0 ≡ a → nat_eq s 1 ≡ b → nat_eq s 2 ≡ c → nat_eq s 3 ≡ d → nat_eq s 4 ≡ e → nat_eq s 5 ≡ f → nat_eq s 6 ≡ g → is_read 0x18 (wide_form s) ≡ true
    go true b c d e f g p q r t u v w = rw p refl
    go false true c d e f g p q r t u v w = rw (p, q) refl
    go false false true d e f g p q r t u v w = rw (p, q, r) refl
    go false false false true e f g p q r t u v w = rw (p, q, r, t) refl
    go false false false false true f g p q r t u v w = rw (p, q, r, t, u) refl
    go false false false false false true g p q r t u v w = rw (p, q, r, t, u, v) refl
    go false false false false false false true p q r t u v w = rw (p, q, r, t, u, v, w) refl
    go false false false false false false false p q r t u v w = rw (p, q, r, t, u, v, w) refl

call_is_read : (s : ℕ) → is_read 0x85 (call_form s) ≡ true
call_is_read s = go (nat_eq s 0) (nat_eq s 1) (nat_eq s 2) refl refl refl
  where
    go : (a b c : Bool) → nat_eq s 0 ≡ a → nat_eq s 1 ≡ b → nat_eq s 2 ≡ c → is_read 0x85 (call_form s) ≡ true
    go true b c p q r = rw p refl
    go false true c p q r = rw (p, q) refl
    go false false true p q r = rw (p, q, r) refl
    go false false false p q r = rw (p, q, r) refl

-- a form that is read has that opcode
pub opcode_is_read : (n s : ℕ) → n < 256 → IfOk (form_of n s) (λ f. n ≡ opcode f)
opcode_is_read n s h = go (nat_eq n 0x18) (nat_eq n 0x85) refl refl
  where
    go : (a b : Bool) → nat_eq n 0x18 ≡ a → nat_eq n 0x85 ≡ b → HasCode n (form_of n s)
    go true b p q = let same : n ≡ 0x18 = eqb-true n 0x18 p in rw same (has_code 0x18 (wide_form s) (wide_is_read s))
    go false true p q = let same : n ≡ 0x85 = eqb-true n 0x85 q in rw same (has_code 0x85 (call_form s) (call_is_read s))
    go false false p q = rw (p, q) (has_code n (plain_form n) (plain_is_read n h))
