-- The instruction of a line: its numbers have to fit their fields (RFC 9669, section
-- 3), and a label is the offset to its slot from the slot after the jump.
use Rattle.std.specs.Prelude.{ℕ, ◌+◌, ◌-◌, ◌/◌, ◌%◌, ◌^◌, ℤ, pos, negsuc, neg_ℤ, ◌-ℤ◌, Bool, true, nat_lt, is_some, List, [], ◌∷◌, Option, Some, None, Result, Err, ok_or, if◌then◌else◌}
use Rattle.std.specs.Str.{bytes_eq}
use Rattle.std.specs.Int.{w32, cast_signed}
use Rattle.scx_isa_semantics.specs.declared.instructions.Insn.{Insn}
use Rattle.scx_isa_semantics.specs.declared.instructions.Insn.TheVariants as insn
use Rattle.scx_isa_semantics.specs.declared.instructions.Operand.{Operand}
use Rattle.scx_isa_semantics.specs.declared.instructions.Operand.TheVariants as operand
use Rattle.scx_asm_text.specs.declared.items.Literal.{Literal}
use Rattle.scx_asm_text.specs.declared.items.WrittenOperand.{WrittenOperand}
use Rattle.scx_asm_text.specs.declared.items.WrittenOperand.TheVariants as argument
use Rattle.scx_asm_text.specs.declared.items.Statement.{Statement}
use Rattle.scx_asm_text.specs.declared.items.Statement.TheVariants as statement
use Rattle.scx_asm_text.specs.declared.items.Jump.{Jump}
use Rattle.scx_asm_text.specs.declared.items.Jump.TheVariants as jump
use Rattle.scx_asm_text.specs.Options.{◌>>=◌, either}
use Rattle.scx_asm_text.specs.Items.{Label, Distance, ItemValue, Blank, DefinesLabel, Says, Jumps}
use Rattle.scx_asm.specs.declared.faults.AsmFault.{AsmFault}
use Rattle.scx_asm.specs.declared.faults.AsmFault.TheVariants.{UnknownLabel, OutOfRange}

-- ---- numbers in their fields

-- a number as it is written, in 32 bits, signed
abbrev pub immediate : Literal → Option ℤ
immediate n = do
  m ← n.magnitude
  if n.is_negative then (if nat_lt (2 ^ 31) m then None else Some (neg_ℤ (pos m)))
      else (if nat_lt m (2 ^ 31) then Some (pos m) else None)

-- a distance or an offset in 16 bits, signed
abbrev pub short : ℤ → Option ℤ
short (pos n) = if nat_lt n (2 ^ 15) then Some (pos n) else None
short (negsuc n) = if nat_lt n (2 ^ 15) then Some (negsuc n) else None

-- 32 bits, signed
abbrev pub wide : ℤ → Option ℤ
wide (pos n) = if nat_lt n (2 ^ 31) then Some (pos n) else None
wide (negsuc n) = if nat_lt n (2 ^ 31) then Some (negsuc n) else None

-- a number as it is written, in 64 bits, signed or unsigned, as bits
abbrev pub long : Literal → Option ℕ
long n = do
  m ← n.magnitude
  if n.is_negative then (if nat_lt (2 ^ 63) m then None else Some ((2 ^ 64 - m) % 2 ^ 64))
      else (if nat_lt m (2 ^ 64) then Some m else None)

-- ---- lines without a label

-- the operand that is written, if it is a register or a number of 32 bits
abbrev pub operand_of : WrittenOperand → Option Operand
operand_of (argument.Register r) = Some (operand.Register r)
operand_of (argument.Number n) = immediate n >>= λ k. Some (operand.Immediate k)

-- the instruction that is written, if its numbers fit their fields
abbrev pub insn_of : Statement → Option Insn
insn_of (statement.Binary w o d x) = operand_of x >>= λ y. Some (insn.Binary w o d y)
insn_of (statement.Negate w d) = Some (insn.Negate w d)
insn_of (statement.SignExtend e d r) = Some (insn.SignExtend e d r)
insn_of (statement.ByteSwap o w d) = Some (insn.ByteSwap o w d)
insn_of (statement.LoadImmediate d n) =
    long n
    >>= λ b. Some
    (insn.LoadImmediate d (cast_signed w32 (b % 2 ^ 32)) (cast_signed w32 (b / 2 ^ 32)))
insn_of (statement.LoadMapReference d n) = immediate n >>= λ k. Some (insn.LoadMapReference d k)
insn_of (statement.Load a d r n) = do
  k ← immediate n
  o ← short k
  Some (insn.Load a d r o)
insn_of (statement.Store s r n x) = do
  k ← immediate n
  o ← short k
  y ← operand_of x
  Some (insn.Store s r o y)
insn_of (statement.Call n) = immediate n >>= λ k. Some (insn.Call k)
insn_of statement.Exit = Some insn.Exit

-- the jump of that distance
abbrev pub jump_of : Jump → ℤ → Option Insn
jump_of (jump.If w c r x) z = do
  o ← short z
  y ← operand_of x
  Some (insn.JumpIf w c r y o)
jump_of jump.Goto z = short z >>= λ o. Some (insn.Goto o)
jump_of jump.GotoLong z = wide z >>= λ o. Some (insn.GotoLong o)

-- a jump of the distance that is written, if its numbers fit their fields
abbrev pub distant : Jump → Literal → Option Insn
distant j n = immediate n >>= jump_of j

-- true if the numbers that the line writes fit their fields
abbrev pub fits : ItemValue → Bool
fits (Says s) = is_some (insn_of s)
fits (Jumps j (Distance n)) = is_some (distant j n)
fits (Jumps j (Label l)) = is_some (jump_of j (pos 0))
fits l = true

-- the slots that the line's instruction takes
abbrev pub slots : ItemValue → ℕ
slots Blank = 0
slots (DefinesLabel l) = 0
slots (Says (statement.LoadImmediate d n)) = 2
slots (Says (statement.LoadMapReference d n)) = 2
slots l = 1

-- ---- labels

-- the labels of a text, each with the slot that it names
abbrev pub Labels : Type 0
Labels = List (List ℕ × ℕ)

-- the slot of the label's first definition, if there is one
unfoldable pub find : List ℕ → Labels → Option ℕ
find l [] = None
find l (e ∷ es) = if bytes_eq l e.0 then Some e.1 else find l es

-- the offset from the slot after a jump
abbrev pub distance : ℕ → ℕ → ℤ
distance slot target = pos target -ℤ pos (slot + 1)

-- the instruction, or the fault where a number of it doesn't fit
abbrev pub or_out_of_range : Option Insn → Result Insn AsmFault
or_out_of_range i = ok_or i OutOfRange

-- a jump at a slot to the label's slot; a fault without such a label, or where a number doesn't fit
abbrev pub to_label : Labels → ℕ → Jump → List ℕ → Result Insn AsmFault
to_label labels slot j l =
    either (find l labels) (λ target. or_out_of_range (jump_of j (distance slot target)))
    (Err UnknownLabel)

-- the instruction of the line at a slot; a line without one is out of range
abbrev pub insn_for : Labels → ℕ → ItemValue → Result Insn AsmFault
insn_for labels slot (Says s) = or_out_of_range (insn_of s)
insn_for labels slot (Jumps j (Distance n)) = or_out_of_range (distant j n)
insn_for labels slot (Jumps j (Label l)) = to_label labels slot j l
insn_for labels slot l = Err OutOfRange
