-- The one spelling of an instruction (RFC 9669, sections 3 to 5): a slot, or two for a wide one. A
-- field that an instruction doesn't use is 0.
use Rattle.std.specs.Prelude.{ℕ, List, ◌∷◌, Option, Some, None, FitsSigned}
use Rattle.std.specs.Option.{option_to_list}
use Rattle.std.specs.Int.{w16, w32, cast_unsigned}
use Rattle.scx_isa_encoding.specs.declared.slots.Slot.{Slot}
use Rattle.scx_isa_semantics.specs.declared.instructions.Insn.{Insn}
use Rattle.scx_isa_semantics.specs.declared.instructions.Insn.TheVariants.{Binary, Negate, SignExtend, ByteSwap, LoadImmediate, LoadMapReference, Load, Store, JumpIf, Goto, GotoLong, Call}
use Rattle.scx_isa_semantics.specs.declared.instructions.Operand.{Operand}
use Rattle.scx_isa_semantics.specs.declared.instructions.Operand.TheVariants.{Immediate, Register}
use Rattle.scx_isa_semantics.specs.declared.operations.Operation.{Operation}
use Rattle.scx_isa_semantics.specs.declared.operations.Operation.TheVariants.{SignedDivide, SignedModulo}
use Rattle.scx_isa_semantics.specs.declared.operations.Extension.{Extension}
use Rattle.scx_isa_semantics.specs.declared.operations.Extension.TheVariants.{Low8To32, Low16To32, Low8To64, Low16To64, Low32To64}
use Rattle.scx_isa_semantics.specs.declared.operations.SwapWidth.{SwapWidth}
use Rattle.scx_isa_semantics.specs.declared.operations.SwapWidth.TheVariants.{Bits16, Bits32, Bits64}
use Rattle.scx_isa_semantics.specs.Registers.{number}
use Rattle.scx_isa_encoding.specs.Opcodes.{opcode, form}

-- ---- the fields of a slot

-- the offset tells signed from unsigned division
abbrev pub operation_offset : Operation → ℕ
operation_offset SignedDivide = 1
operation_offset SignedModulo = 1
operation_offset o = 0

-- and how many bits a sign-extending move takes
abbrev pub extension_offset : Extension → ℕ
extension_offset Low8To32 = 8
extension_offset Low16To32 = 16
extension_offset Low8To64 = 8
extension_offset Low16To64 = 16
extension_offset Low32To64 = 32

-- the immediate of a byte swap: how many low bits it keeps
abbrev pub order_bits : SwapWidth → ℕ
order_bits Bits16 = 16
order_bits Bits32 = 32
order_bits Bits64 = 64

-- the source field for an operand: its register's number, or 0 beside an immediate
abbrev pub operand_register : Operand → ℕ
operand_register (Immediate k) = 0
operand_register (Register r) = number r

-- the immediate field for an operand: its 32 bits, or 0 beside a register
abbrev pub operand_immediate : Operand → ℕ
operand_immediate (Immediate k) = cast_unsigned w32 k
operand_immediate (Register r) = 0

-- a store and a jump have their first register there too
abbrev pub destination_field : Insn → ℕ
destination_field (Binary w o d x) = number d
destination_field (Negate w d) = number d
destination_field (SignExtend e d r) = number d
destination_field (ByteSwap o w d) = number d
destination_field (LoadImmediate d low high) = number d
destination_field (LoadMapReference d k) = number d
destination_field (Load a d r offset) = number d
destination_field (Store s r offset x) = number r
destination_field (JumpIf w c r x offset) = number r
destination_field i = 0

-- a load of a map reference is told from that of an immediate there
abbrev pub source_field : Insn → ℕ
source_field (Binary w o d x) = operand_register x
source_field (SignExtend e d r) = number r
source_field (LoadMapReference d k) = 5
source_field (Load a d r offset) = number r
source_field (Store s r offset x) = operand_register x
source_field (JumpIf w c r x offset) = operand_register x
source_field i = 0

-- a distance, an address's offset, or what tells operations of one opcode apart, else 0
abbrev pub offset_field : Insn → ℕ
offset_field (Binary w o d x) = operation_offset o
offset_field (SignExtend e d r) = extension_offset e
offset_field (Load a d r offset) = cast_unsigned w16 offset
offset_field (Store s r offset x) = cast_unsigned w16 offset
offset_field (JumpIf w c r x offset) = cast_unsigned w16 offset
offset_field (Goto offset) = cast_unsigned w16 offset
offset_field i = 0

-- an operand, a swap's width, a long distance, a helper's number or a wide load's low half, else 0
abbrev pub immediate_field : Insn → ℕ
immediate_field (Binary w o d x) = operand_immediate x
immediate_field (ByteSwap o w d) = order_bits w
immediate_field (LoadImmediate d low high) = cast_unsigned w32 low
immediate_field (LoadMapReference d k) = cast_unsigned w32 k
immediate_field (Store s r offset x) = operand_immediate x
immediate_field (JumpIf w c r x offset) = operand_immediate x
immediate_field (GotoLong offset) = cast_unsigned w32 offset
immediate_field (Call k) = cast_unsigned w32 k
immediate_field i = 0

-- ---- slots and bytes

-- the one slot of an instruction, or the first half of a wide one
abbrev pub first_slot : Insn → Slot
first_slot i = record {
  opcode = opcode (form i);
  destination = destination_field i;
  source = source_field i;
  offset = offset_field i;
  immediate = immediate_field i;
}

-- a second half holds nothing but an immediate
abbrev pub half : ℕ → Slot
half k = record { opcode = 0; destination = 0; source = 0; offset = 0; immediate = k }

-- the second half of a wide instruction; other instructions have none
abbrev pub second_slot : Insn → Option Slot
second_slot (LoadImmediate d low high) = Some (half (cast_unsigned w32 high))
second_slot (LoadMapReference d k) = Some (half 0)
second_slot i = None

-- the one slot that spells an instruction, or both halves of a wide one
abbrev pub insn_slots : Insn → List Slot
insn_slots i = first_slot i ∷ option_to_list (second_slot i)

-- ---- numbers

-- an operand whose immediate, if it is one, fits in 32 bits with its sign
abbrev pub IsOperand : Operand → Type 0
IsOperand (Immediate k) = FitsSigned w32 k
IsOperand (Register r) = Unit {0}

-- an instruction whose numbers fit their fields
abbrev pub IsInsn : Insn → Type 0
IsInsn (Binary w o d x) = IsOperand x
IsInsn (LoadImmediate d low high) = FitsSigned w32 low × FitsSigned w32 high
IsInsn (LoadMapReference d k) = FitsSigned w32 k
IsInsn (Load a d r offset) = FitsSigned w16 offset
IsInsn (Store s r offset x) = FitsSigned w16 offset × IsOperand x
IsInsn (JumpIf w c r x offset) = FitsSigned w16 offset × IsOperand x
IsInsn (Goto offset) = FitsSigned w16 offset
IsInsn (GotoLong offset) = FitsSigned w32 offset
IsInsn (Call k) = FitsSigned w32 k
IsInsn i = Unit {0}
