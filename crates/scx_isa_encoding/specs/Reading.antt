-- Reading an instruction from its slots, or its first fault. The opcode is looked at first, then
-- the registers, then the offset where the form lists its values, then the width of a byte swap;
-- then the slot has to be the one that spells the instruction, or a field that it doesn't use isn't
-- 0; then a wide one needs a second slot.
use Rattle.std.specs.Prelude.{ℕ, ℤ, ◌&&◌, nat_eq, is_none, List, [], ◌∷◌, Option, Some, None, Result, Ok, Err, ok_or, option_map, if◌then◌else◌}
use Rattle.std.specs.Int.{w16, w32, cast_signed}
use Rattle.scx_isa_encoding.specs.declared.slots.Slot.{Slot}
use Rattle.scx_isa_semantics.specs.declared.instructions.Insn.{Insn}
use Rattle.scx_isa_semantics.specs.declared.instructions.Insn.TheVariants as insn
use Rattle.scx_isa_semantics.specs.declared.instructions.Operand.{Operand}
use Rattle.scx_isa_semantics.specs.declared.instructions.Operand.TheVariants as operand
use Rattle.scx_isa_semantics.specs.declared.operations.Width.{Width}
use Rattle.scx_isa_semantics.specs.declared.operations.Width.TheVariants.{Bits32, Bits64}
use Rattle.scx_isa_semantics.specs.declared.operations.Operation.{Operation}
use Rattle.scx_isa_semantics.specs.declared.operations.Operation.TheVariants.{Divide, SignedDivide, Modulo, SignedModulo, Move}
use Rattle.scx_isa_semantics.specs.declared.operations.Extension.{Extension}
use Rattle.scx_isa_semantics.specs.declared.operations.Extension.TheVariants.{Low8To32, Low16To32, Low8To64, Low16To64, Low32To64}
use Rattle.scx_isa_semantics.specs.declared.operations.SwapWidth.{SwapWidth}
use Rattle.scx_isa_semantics.specs.declared.operations.SwapWidth.TheVariants as order
use Rattle.scx_isa_semantics.specs.declared.registers.Register.{Register}
use Rattle.scx_isa_encoding.specs.declared.forms.Source.{Source}
use Rattle.scx_isa_encoding.specs.declared.forms.Source.TheVariants as source
use Rattle.scx_isa_encoding.specs.declared.forms.Form.{Form}
use Rattle.scx_isa_encoding.specs.declared.forms.Form.TheVariants.{Binary, Negate, ByteSwap, LoadImmediate, LoadMapReference, Load, Store, JumpIf, Goto, GotoLong, Call, Exit}
use Rattle.scx_isa_encoding.specs.declared.faults.DecodeFault.{DecodeFault}
use Rattle.scx_isa_encoding.specs.declared.faults.DecodeFault.TheVariants.{BadRegister, UnusedField, HalfWide, BadOffset, BadWidth}
use Rattle.scx_isa_semantics.specs.Results.{◌>>=◌}
use Rattle.scx_isa_semantics.specs.Registers.{register_at}
use Rattle.scx_isa_encoding.specs.Slots.{same_slot}
use Rattle.scx_isa_semantics.specs.Tables.{first_with_code}
use Rattle.scx_isa_encoding.specs.Opcodes.{form_of}
use Rattle.scx_isa_semantics.specs.Code.{is_wide}
use Rattle.scx_isa_encoding.specs.Spelling.{extension_offset, order_bits, first_slot, second_slot}

-- the register that a field of a slot names; above 10 a fault
abbrev pub register_of_field : ℕ → Result Register DecodeFault
register_of_field n = ok_or (register_at n) BadRegister

-- the operand from a slot's fields: its immediate with a sign, or its source register
abbrev pub operand_at : Source → Slot → Result Operand DecodeFault
operand_at source.Immediate s = Ok (operand.Immediate (cast_signed w32 s.immediate))
operand_at source.Register s = do
  r ← register_of_field s.source
  Ok (operand.Register r)

-- the sign-extending moves of a width
abbrev pub extensions : Width → List Extension
extensions Bits32 = Low8To32 ∷ Low16To32 ∷ []
extensions Bits64 = Low8To64 ∷ Low16To64 ∷ Low32To64 ∷ []

-- the sign-extending move that the offset chooses, of a register alone
abbrev pub extension_at : Width → Register → Operand → ℕ → Option Insn
extension_at w d (operand.Immediate k) n = None
extension_at w d (operand.Register r) n =
    option_map (λ e. insn.SignExtend e d r) (first_with_code extension_offset (extensions w) n)

-- the arithmetic that the offset chooses; none where the form doesn't list the offset
abbrev pub binary_at : Width → Operation → Register → Operand → ℕ → Option Insn
binary_at w Divide d x n =
    if nat_eq n 0 then Some (insn.Binary w Divide d x)
    else (if nat_eq n 1 then Some (insn.Binary w SignedDivide d x) else None)
binary_at w Modulo d x n =
    if nat_eq n 0 then Some (insn.Binary w Modulo d x)
    else (if nat_eq n 1 then Some (insn.Binary w SignedModulo d x) else None)
binary_at w Move d x n = if nat_eq n 0 then Some (insn.Binary w Move d x) else extension_at w d x n
binary_at w o d x n = Some (insn.Binary w o d x)

-- all widths of byte swaps
abbrev pub order_widths : List SwapWidth
order_widths = order.Bits16 ∷ order.Bits32 ∷ order.Bits64 ∷ []

-- the immediate of the second half, which has its fault later where it is missing
abbrev pub high_half : Option Slot → ℕ
high_half None = 0
high_half (Some t) = t.immediate

-- a slot's immediate, as a number with a sign
abbrev pub immediate_at : Slot → ℤ
immediate_at s = cast_signed w32 s.immediate

-- a slot's offset, as a number with a sign
abbrev pub offset_at : Slot → ℤ
offset_at s = cast_signed w16 s.offset

-- the instruction of that form with the fields of a slot
abbrev pub insn_of_form : Form → Slot → Option Slot → Result Insn DecodeFault
insn_of_form (Binary w o x) s next = do
  d ← register_of_field s.destination
  y ← operand_at x s
  ok_or (binary_at w o d y s.offset) BadOffset
insn_of_form (Negate w) s next = do
  d ← register_of_field s.destination
  Ok (insn.Negate w d)
insn_of_form (ByteSwap o) s next = do
  d ← register_of_field s.destination
  w ← ok_or (first_with_code order_bits order_widths s.immediate) BadWidth
  Ok (insn.ByteSwap o w d)
insn_of_form LoadImmediate s next = do
  d ← register_of_field s.destination
  Ok (insn.LoadImmediate d (immediate_at s) (cast_signed w32 (high_half next)))
insn_of_form LoadMapReference s next = do
  d ← register_of_field s.destination
  Ok (insn.LoadMapReference d (immediate_at s))
insn_of_form (Load a) s next = do
  d ← register_of_field s.destination
  r ← register_of_field s.source
  Ok (insn.Load a d r (offset_at s))
insn_of_form (Store z x) s next = do
  r ← register_of_field s.destination
  y ← operand_at x s
  Ok (insn.Store z r (offset_at s) y)
insn_of_form (JumpIf w c x) s next = do
  r ← register_of_field s.destination
  y ← operand_at x s
  Ok (insn.JumpIf w c r y (offset_at s))
insn_of_form Goto s next = Ok (insn.Goto (offset_at s))
insn_of_form GotoLong s next = Ok (insn.GotoLong (immediate_at s))
insn_of_form Call s next = Ok (insn.Call (immediate_at s))
insn_of_form Exit s next = Ok insn.Exit

-- the instruction in a slot and the one after it, if any
abbrev pub whole : Slot → Option Slot → Insn → Result Insn DecodeFault
whole s next i =
    if same_slot s (first_slot i) then (if is_wide i && is_none next then Err HalfWide else Ok i)
    else Err UnusedField

-- the instruction that begins at a slot, with the slot after it, if any
abbrev pub insn_at : Slot → Option Slot → Result Insn DecodeFault
insn_at s next = do
  f ← form_of s.opcode s.source
  i ← insn_of_form f s next
  whole s next i

-- true if the slot is the second half that is due
abbrev pub half_at : Slot → Slot → Result (Option Insn) DecodeFault
half_at s due = if same_slot s due then Ok None else Err UnusedField

-- The occupant of a slot: the second half that is due there, or an instruction.
abbrev pub occupant_at : Option Slot → Slot → Option Slot → Result (Option Insn) DecodeFault
occupant_at None s next = insn_at s next >>= λ i. Ok (Some i)
occupant_at (Some due) s next = half_at s due

-- the second half that is due after a slot
abbrev pub due_after : Option Insn → Option Slot
due_after None = None
due_after (Some i) = second_slot i
