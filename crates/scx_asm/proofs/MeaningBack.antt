-- An instruction whose numbers are written out stands for itself.
use Rattle.std.proofs.Common.{◌≡◌, ℕ, suc, ◌+◌, ◌/◌, ◌%◌, ◌^◌, ◌<◌, ◌≤◌, ℤ, pos, negsuc, List, [], ◌∷◌, map, Some, FitsSigned, refl, arith}
use Rattle.std.proofs.lemmas.Bool.{lt-ltb, le-ltb}
use Rattle.std.proofs.lemmas.Int.{ints}
use Rattle.std.proofs.Math.Facts.{Fits-of_z, to_z-of_z}
use Rattle.std.specs.Int.{w16, w32, cast_signed, cast_unsigned}
use Rattle.std.specs.List.{AllByRecursion}
use Rattle.scx_isa_semantics.specs.declared.instructions.Operand.{Operand}
use Rattle.scx_isa_semantics.specs.declared.instructions.Operand.TheVariants as operand
use Rattle.scx_isa_semantics.specs.declared.instructions.Insn.{Insn}
use Rattle.scx_isa_semantics.specs.declared.instructions.Insn.TheVariants as insn
use Rattle.scx_isa_semantics.specs.Arithmetic as arithmetic
use Rattle.scx_isa_encoding.specs.Spelling.{IsOperand, IsInsn}
use Rattle.scx_asm_text.specs.declared.items.Literal.{Literal}
use Rattle.scx_asm_text.specs.declared.items.Statement.{Statement}
use Rattle.scx_asm_text.specs.declared.items.Jump.{Jump}
use Rattle.scx_asm_text.specs.Canonical.{insn_text}
use Rattle.scx_asm_text.specs.Items.{Distance, ItemValue, Says, Jumps, read_line}
use Rattle.scx_asm.specs.Resolving.{immediate, short, operand_of, insn_of, distant, slots, Labels}
use Rattle.scx_asm.specs.Standing.{label_at, definitions, AreSaid}
use Rattle.scx_asm.proofs.Fitting.{wide_is}
use Rattle.scx_asm.proofs.ItemsBack.{literal_as, argument_as, line_as, insn_line}

-- ---- numbers

immediate_as : (z : ℤ) → FitsSigned w32 z → immediate (literal_as z) ≡ Some z
immediate_as (pos n) f =
    let small : n < 2 ^ 31 = omega (arith, ints) in
    rw (lt-ltb _ _ small) refl
immediate_as (negsuc n) f =
    let small : suc n ≤ 2 ^ 31 = omega (arith, ints) in
    rw (le-ltb _ _ small) refl

short_as : (z : ℤ) → FitsSigned w16 z → short z ≡ Some z
short_as (pos n) f = let small : n < 2 ^ 15 = omega (arith, ints) in rw (lt-ltb _ _ small) refl
short_as (negsuc n) f = let small : n < 2 ^ 15 = omega (arith, ints) in rw (lt-ltb _ _ small) refl

wider : (z : ℤ) → FitsSigned w16 z → FitsSigned w32 z
wider (pos n) f = omega (arith, ints)
wider (negsuc n) f = omega (arith, ints)

operand_as : (x : Operand) → IsOperand x → operand_of (argument_as x) ≡ Some x
operand_as (operand.Register r) h = refl
operand_as (operand.Immediate k) h = rw (immediate_as k h) refl

half_small : (z : ℤ) → FitsSigned w32 z → cast_unsigned w32 z < 2 ^ 32
half_small z f = (Fits-of_z {w = w32} {z = z} f).fits

half_again : (z : ℤ) → FitsSigned w32 z → cast_signed w32 (cast_unsigned w32 z) ≡ z
half_again z f = to_z-of_z {w = w32} {z = z} f

-- ---- lines

-- the line says the instruction at every slot, before any lines, and defines no label
pub record Means (l : ItemValue) (i : Insn) : Type 0 where
  pub more : (labels : Labels) (s : ℕ) (ls : List ItemValue) (is : List Insn) → AreSaid labels (s + slots l) ls is → AreSaid labels s (l ∷ ls) (i ∷ is)
  pub nameless : (s : ℕ) → label_at s l ≡ []

says : (s : Statement) (i : Insn) → insn_of s ≡ Some i → Means (Says s) i
says s i e = record { more = λ labels s ls is h. (e, h); nameless = λ s. refl }

jumps : (j : Jump) (n : Literal) (i : Insn) → distant j n ≡ Some i → Means (Jumps j (Distance n)) i
jumps j n i e = record { more = λ labels s ls is h. (e, h); nameless = λ s. refl }

-- one instruction
pub means : (i : Insn) → IsInsn i → Means (line_as i) i
means (insn.Binary w o d x) h = says _ _ (rw (operand_as x h) refl)
means (insn.Negate w d) h = says _ _ refl
means (insn.SignExtend e d r) h = says _ _ refl
means (insn.ByteSwap o w d) h = says _ _ refl
means (insn.LoadImmediate d low high) h =
    let a = half_small low h.0 in
    let b = half_small high h.1 in
    let fit : arithmetic.wide_immediate low high < 2 ^ 64 = omega (arith, a, b) in
    let lower : arithmetic.wide_immediate low high % 2 ^ 32 ≡ cast_unsigned w32 low = omega (arith, a, b) in
    let upper : arithmetic.wide_immediate low high / 2 ^ 32 ≡ cast_unsigned w32 high = omega (arith, a, b) in
    says _ _ (rw (lt-ltb _ _ fit, lower, upper, half_again low h.0, half_again high h.1) refl)
means (insn.LoadMapReference d k) h = says _ _ (rw (immediate_as k h) refl)
means (insn.Load a d r o) h = says _ _ (rw (immediate_as o (wider o h), short_as o h) refl)
means (insn.Store s r o x) h = says _ _ (rw (immediate_as o (wider o h.0), short_as o h.0, operand_as x h.1) refl)
means (insn.JumpIf w c r x o) h = jumps _ _ _ (rw (immediate_as o (wider o h.0), short_as o h.0, operand_as x h.1) refl)
means (insn.Goto o) h = jumps _ _ _ (rw (immediate_as o (wider o h), short_as o h) refl)
means (insn.GotoLong o) h = jumps _ _ _ (rw (immediate_as o h, wide_is o h) refl)
means (insn.Call k) h = says _ _ (rw (immediate_as k h) refl)
means insn.Exit h = says _ _ refl

-- ---- lines in order

-- its line defines no label
pub defines_none : (s : ℕ) (is : List Insn) → AllByRecursion IsInsn is → definitions s (map line_as is) ≡ []
defines_none s [] h = refl
defines_none s (i ∷ is) h = rw ((means i h.0).nameless s) (defines_none (s + slots (line_as i)) is h.1)

-- all of them
pub all_said : (labels : Labels) (s : ℕ) (is : List Insn) → AllByRecursion IsInsn is → AreSaid labels s (map line_as is) is
all_said labels s [] h = tt
all_said labels s (i ∷ is) h = (means i h.0).more labels s (map line_as is) is (all_said labels (s + slots (line_as i)) is h.1)

-- and their texts are read so
pub all_read : (is : List Insn) → AllByRecursion IsInsn is → map read_line (map insn_text is) ≡ map Some (map line_as is)
all_read [] h = refl
all_read (i ∷ is) h = rw (insn_line i h.0, all_read is h.1) refl
