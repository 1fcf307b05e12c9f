-- The canonical text of an instruction: single spaces, decimal numbers, and every offset and
-- distance with its sign.
use Rattle.std.specs.Prelude.{ℕ, suc, ℤ, pos, negsuc, List, ◌++◌, codes}
use Rattle.std.specs.Fmt.{decimal, signed_decimal}
use Rattle.scx_isa_semantics.specs.declared.operations.Width.{Width}
use Rattle.scx_isa_semantics.specs.declared.operations.Width.TheVariants.{Bits64}
use Rattle.scx_isa_semantics.specs.declared.registers.Register.{Register}
use Rattle.scx_isa_semantics.specs.declared.instructions.Operand.{Operand}
use Rattle.scx_isa_semantics.specs.declared.instructions.Operand.TheVariants as operand
use Rattle.scx_isa_semantics.specs.declared.instructions.Insn.{Insn}
use Rattle.scx_isa_semantics.specs.declared.instructions.Insn.TheVariants as insn
use Rattle.scx_isa_semantics.specs.Arithmetic.{wide_immediate, extension_width}
use Rattle.scx_asm_text.specs.declared.symbols.Symbol.TheVariants.{Assign, Compare}
use Rattle.scx_asm_text.specs.Symbols.{spelling}
use Rattle.scx_asm_text.specs.Names.{register_text, access_text, stored_access, extension_access, order_text}

-- a decimal number with its sign if it is negative, or a register of the width
abbrev pub operand_text : Width → Operand → List ℕ
operand_text w (operand.Immediate k) = signed_decimal k
operand_text w (operand.Register r) = register_text w r

-- the sign of an offset is a token of its own
abbrev pub offset_text : ℤ → List ℕ
offset_text (pos n) = codes "+ " ++ decimal n
offset_text (negsuc n) = codes "- " ++ decimal (suc n)

-- a jump's distance, always with a sign that touches the number
abbrev pub distance_text : ℤ → List ℕ
distance_text (pos n) = codes "+" ++ decimal n
distance_text (negsuc n) = codes "-" ++ decimal (suc n)

-- memory as it is written: the name of its access, the register that points to it, the offset
abbrev pub memory_operand_text : List ℕ → Register → ℤ → List ℕ
memory_operand_text access r o =
    codes "*(" ++ access ++ codes " *)(" ++ register_text Bits64 r ++ codes " "
    ++ offset_text o ++ codes ")"

-- the line of an instruction, without a line feed; a jump's target is written as a distance
abbrev pub insn_text : Insn → List ℕ
insn_text (insn.Binary w o d x) =
    register_text w d ++ codes " " ++ spelling (Assign o) ++ codes " " ++ operand_text w x
insn_text (insn.Negate w d) = register_text w d ++ codes " = -" ++ register_text w d
insn_text (insn.SignExtend e d r) =
    register_text (extension_width e) d ++ codes " = (" ++ access_text (extension_access e)
    ++ codes ")" ++ register_text (extension_width e) r
insn_text (insn.ByteSwap o w d) =
    register_text Bits64 d ++ codes " = " ++ order_text (o, w) ++ codes " "
    ++ register_text Bits64 d
insn_text (insn.LoadImmediate d low high) =
    register_text Bits64 d ++ codes " = " ++ decimal (wide_immediate low high) ++ codes " ll"
insn_text (insn.LoadMapReference d k) =
    register_text Bits64 d ++ codes " = map " ++ signed_decimal k
insn_text (insn.Load a d r o) =
    register_text Bits64 d ++ codes " = " ++ memory_operand_text (access_text a) r o
insn_text (insn.Store s r o x) =
    memory_operand_text (access_text (stored_access s)) r o ++ codes " = " ++ operand_text Bits64 x
insn_text (insn.JumpIf w c r x o) =
    codes "if " ++ register_text w r ++ codes " " ++ spelling (Compare c) ++ codes " "
    ++ operand_text w x ++ codes " goto " ++ distance_text o
insn_text (insn.Goto o) = codes "goto " ++ distance_text o
insn_text (insn.GotoLong o) = codes "gotol " ++ distance_text o
insn_text (insn.Call k) = codes "call " ++ signed_decimal k
insn_text insn.Exit = codes "exit"
