-- Opcodes (RFC 9669, sections 3.1, 4 and 5): a form is an instruction without its operands, and
-- `opcode` gives each form its code. An opcode is read by the same tables. What isn't in the
-- profile, which is the conformance groups base32, base64, divmul32 and divmul64 (section 2.4), is
-- refused by a name of its own, and every other opcode as unknown.
use Rattle.std.specs.Prelude.{ℕ, ◌+◌, ◌-◌, ◌*◌, ◌/◌, ◌%◌, Bool, nat_eq, List, [], ◌∷◌, Option, Some, None, Result, Ok, Err, ok_or, option_map, if◌then◌else◌}
use Rattle.std.specs.List.{list_any}
use Rattle.scx_isa_semantics.specs.declared.instructions.Insn.{Insn}
use Rattle.scx_isa_semantics.specs.declared.instructions.Insn.TheVariants as insn
use Rattle.scx_isa_semantics.specs.declared.instructions.Operand.{Operand}
use Rattle.scx_isa_semantics.specs.declared.instructions.Operand.TheVariants as operand
use Rattle.scx_isa_semantics.specs.declared.operations.Width.{Width}
use Rattle.scx_isa_semantics.specs.declared.operations.Width.TheVariants.{Bits32, Bits64}
use Rattle.scx_isa_semantics.specs.declared.operations.Operation.{Operation}
use Rattle.scx_isa_semantics.specs.declared.operations.Operation.TheVariants.{Add, Subtract, Multiply, Divide, SignedDivide, Or, And, Xor, ShiftLeft, ShiftRight, ShiftRightSigned, Modulo, SignedModulo, Move}
use Rattle.scx_isa_semantics.specs.declared.operations.ByteOrder.{ByteOrder}
use Rattle.scx_isa_semantics.specs.declared.operations.ByteOrder.TheVariants.{Little, Big, Swapped}
use Rattle.scx_isa_semantics.specs.declared.operations.Size.{Size}
use Rattle.scx_isa_semantics.specs.declared.operations.Size.TheVariants as size
use Rattle.scx_isa_semantics.specs.declared.operations.Access.{Access}
use Rattle.scx_isa_semantics.specs.declared.operations.Access.TheVariants as access
use Rattle.scx_isa_semantics.specs.declared.operations.Comparison.{Comparison}
use Rattle.scx_isa_semantics.specs.declared.operations.Comparison.TheVariants.{Equal, Greater, GreaterOrEqual, BitTest, NotEqual, SignedGreater, SignedGreaterOrEqual, Less, LessOrEqual, SignedLess, SignedLessOrEqual}
use Rattle.scx_isa_semantics.specs.Tables.{first_with_code}
use Rattle.scx_isa_semantics.specs.Arithmetic.{extension_width}
use Rattle.scx_isa_encoding.specs.declared.forms.Source.{Source}
use Rattle.scx_isa_encoding.specs.declared.forms.Source.TheVariants.{Immediate, Register}
use Rattle.scx_isa_encoding.specs.declared.forms.Form.{Form}
use Rattle.scx_isa_encoding.specs.declared.forms.Form.TheVariants.{Binary, Negate, ByteSwap, LoadImmediate, LoadMapReference, Load, Store, JumpIf, Goto, GotoLong, Call, Exit}
use Rattle.scx_isa_encoding.specs.declared.faults.Exclusion.TheVariants.{Atomic32, Atomic64, Packet, LocalCall, BtfCall, MapByFd, MapValueByFd, VariableAddress, CodeAddress, MapValueByIndex}
use Rattle.scx_isa_encoding.specs.declared.faults.DecodeFault.{DecodeFault}
use Rattle.scx_isa_encoding.specs.declared.faults.DecodeFault.TheVariants.{UnknownOpcode, NotInProfile}

-- ---- the table

-- the classes ALU and ALU64
abbrev pub arithmetic_class : Width → ℕ
arithmetic_class Bits32 = 4
arithmetic_class Bits64 = 7

-- the classes JMP32 and JMP
abbrev pub jump_class : Width → ℕ
jump_class Bits32 = 6
jump_class Bits64 = 5

-- the classes ST and STX
abbrev pub store_class : Source → ℕ
store_class Immediate = 2
store_class Register = 3

-- the source bit of an opcode, K or X: whether the operand is an immediate or a register
abbrev pub source_bit : Source → ℕ
source_bit Immediate = 0
source_bit Register = 8

-- the high four bits for arithmetic; the offset alone tells signed from unsigned division
abbrev pub operation_code : Operation → ℕ
operation_code Add = 0
operation_code Subtract = 1
operation_code Multiply = 2
operation_code Divide = 3
operation_code SignedDivide = 3
operation_code Or = 4
operation_code And = 5
operation_code ShiftLeft = 6
operation_code ShiftRight = 7
operation_code Modulo = 9
operation_code SignedModulo = 9
operation_code Xor = 0xa
operation_code Move = 0xb
operation_code ShiftRightSigned = 0xc

-- the high four bits for a conditional jump
abbrev pub comparison_code : Comparison → ℕ
comparison_code Equal = 1
comparison_code Greater = 2
comparison_code GreaterOrEqual = 3
comparison_code BitTest = 4
comparison_code NotEqual = 5
comparison_code SignedGreater = 6
comparison_code SignedGreaterOrEqual = 7
comparison_code Less = 0xa
comparison_code LessOrEqual = 0xb
comparison_code SignedLess = 0xc
comparison_code SignedLessOrEqual = 0xd

-- a byte swap has operation 13: of ALU with K and X, and of ALU64 with K
abbrev pub order_code : ByteOrder → ℕ
order_code Little = 0xd4
order_code Big = 0xdc
order_code Swapped = 0xd7

-- the mode MEM with the size
abbrev pub size_code : Size → ℕ
size_code size.Word = 0x60
size_code size.HalfWord = 0x68
size_code size.Byte = 0x70
size_code size.DoubleWord = 0x78

-- the mode MEM or MEMSX with the size
abbrev pub access_code : Access → ℕ
access_code access.Word = 0x60
access_code access.HalfWord = 0x68
access_code access.Byte = 0x70
access_code access.DoubleWord = 0x78
access_code access.SignedWord = 0x80
access_code access.SignedHalfWord = 0x88
access_code access.SignedByte = 0x90

-- the eight bits of a form; both wide loads have the same, and the source field tells them apart
abbrev pub opcode : Form → ℕ
opcode (Binary w o x) = arithmetic_class w + source_bit x + 16 * operation_code o
opcode (Negate Bits32) = 0x84
opcode (Negate Bits64) = 0x87
opcode (ByteSwap o) = order_code o
opcode LoadImmediate = 0x18
opcode LoadMapReference = 0x18
opcode (Load a) = 1 + access_code a
opcode (Store s x) = store_class x + size_code s
opcode (JumpIf w c x) = jump_class w + source_bit x + 16 * comparison_code c
opcode Goto = 0x05
opcode GotoLong = 0x06
opcode Call = 0x85
opcode Exit = 0x95

-- ---- forms of instructions

-- the operation of the form, where the offset tells signed from unsigned
abbrev pub base : Operation → Operation
base SignedDivide = Divide
base SignedModulo = Modulo
base o = o

-- the kind of an operand: an immediate or a register
abbrev pub source_of : Operand → Source
source_of (operand.Immediate k) = Immediate
source_of (operand.Register r) = Register

-- a sign-extending move has the form of a move, and its offset tells it
abbrev pub form : Insn → Form
form (insn.Binary w o d x) = Binary w (base o) (source_of x)
form (insn.Negate w d) = Negate w
form (insn.SignExtend e d r) = Binary (extension_width e) Move Register
form (insn.ByteSwap o w d) = ByteSwap o
form (insn.LoadImmediate d low high) = LoadImmediate
form (insn.LoadMapReference d k) = LoadMapReference
form (insn.Load a d r offset) = Load a
form (insn.Store s r offset x) = Store s (source_of x)
form (insn.JumpIf w c r x offset) = JumpIf w c (source_of x)
form (insn.Goto offset) = Goto
form (insn.GotoLong offset) = GotoLong
form (insn.Call k) = Call
form insn.Exit = Exit

-- ---- forms of opcodes

-- the operations of arithmetic that an opcode tells apart: all but the signed divisions
abbrev pub base_operations : List Operation
base_operations =
    Add ∷ Subtract ∷ Multiply ∷ Divide ∷ Or ∷ And ∷ ShiftLeft ∷ ShiftRight ∷ Modulo ∷ Xor ∷ Move
    ∷ ShiftRightSigned ∷ []

-- all comparisons of conditional jumps
abbrev pub comparisons : List Comparison
comparisons =
    Equal ∷ Greater ∷ GreaterOrEqual ∷ BitTest ∷ NotEqual ∷ SignedGreater ∷ SignedGreaterOrEqual
    ∷ Less ∷ LessOrEqual ∷ SignedLess ∷ SignedLessOrEqual ∷ []

-- all sizes of stores
abbrev pub sizes : List Size
sizes = size.Word ∷ size.HalfWord ∷ size.Byte ∷ size.DoubleWord ∷ []

-- all ways in which a load reads
abbrev pub accesses : List Access
accesses =
    access.Word ∷ access.HalfWord ∷ access.Byte ∷ access.DoubleWord
    ∷ access.SignedWord ∷ access.SignedHalfWord ∷ access.SignedByte ∷ []

-- the forms of which each has a code of its own
abbrev pub lone_forms : List Form
lone_forms =
    Negate Bits32 ∷ Negate Bits64 ∷ ByteSwap Little ∷ ByteSwap Big ∷ ByteSwap Swapped ∷ Goto
    ∷ GotoLong ∷ Exit ∷ []

-- the kind of an opcode's operand, by its source bit: an immediate or a register
abbrev pub source_at : ℕ → Source
source_at n = if nat_eq (n / 8 % 2) 0 then Immediate else Register

-- arithmetic, by the operation in the high four bits
abbrev pub binary_form : Width → ℕ → Option Form
binary_form w n =
    option_map (λ o. Binary w o (source_at n))
    (first_with_code operation_code base_operations (n / 16))

-- a conditional jump by the comparison in the high four bits, if they have one
abbrev pub jump_form : Width → ℕ → Option Form
jump_form w n =
    option_map (λ c. JumpIf w c (source_at n))
    (first_with_code comparison_code comparisons (n / 16))

-- an access by the opcode without its class
abbrev pub load_form : ℕ → Option Form
load_form n = option_map Load (first_with_code access_code accesses n)

-- a store by the size in the opcode without its class, if it has one
abbrev pub store_form : Source → ℕ → Option Form
store_form x n = option_map (λ s. Store s x) (first_with_code size_code sizes n)

-- the form of an opcode by its class, the low three bits
abbrev pub class_form : ℕ → ℕ → Option Form
class_form class n =
    if nat_eq class 1 then load_form (n - 1) else (
    if nat_eq class 2 then store_form Immediate (n - 2) else (
    if nat_eq class 3 then store_form Register (n - 3) else (
    if nat_eq class 4 then binary_form Bits32 n else (
    if nat_eq class 5 then jump_form Bits64 n else (
    if nat_eq class 6 then jump_form Bits32 n else (
    if nat_eq class 7 then binary_form Bits64 n else None))))))

-- the first of two if it is there, or else the second
abbrev pub first_some : {A : Type 0} → Option A → Option A → Option A
first_some None y = y
first_some (Some x) y = Some x

-- true if a number is in the list
abbrev pub among : List ℕ → ℕ → Bool
among ns n = list_any (λ m. nat_eq n m) ns

-- why an opcode has no form
abbrev pub opcode_fault : ℕ → DecodeFault
opcode_fault n =
    if nat_eq n 0xc3 then NotInProfile Atomic32
    else (if nat_eq n 0xdb then NotInProfile Atomic64
    else (if among (0x20 ∷ 0x28 ∷ 0x30 ∷ 0x40 ∷ 0x48 ∷ 0x50 ∷ []) n then NotInProfile Packet
    else UnknownOpcode))

-- the form of an opcode, or why it has none, where the source field tells no forms apart
abbrev pub plain_form : ℕ → Result Form DecodeFault
plain_form n =
    ok_or (first_some (first_with_code opcode lone_forms n) (class_form (n % 8) n)) (opcode_fault n)

-- the value in a table's row for the number
abbrev pub look_up : {A : Type 0} → A → List (ℕ × A) → ℕ → A
look_up other [] n = other
look_up other (row ∷ rows) n = if nat_eq n row.0 then row.1 else look_up other rows n

-- no form, by that fault
abbrev pub no_form : DecodeFault → Result Form DecodeFault
no_form fault = Err fault

-- a load of a 64-bit immediate, by its source field
abbrev pub wide_form : ℕ → Result Form DecodeFault
wide_form s = look_up (no_form UnknownOpcode) ((0, Ok LoadImmediate)
    ∷ (1, Err (NotInProfile MapByFd))
    ∷ (2, Err (NotInProfile MapValueByFd))
    ∷ (3, Err (NotInProfile VariableAddress))
    ∷ (4, Err (NotInProfile CodeAddress))
    ∷ (5, Ok LoadMapReference)
    ∷ (6, Err (NotInProfile MapValueByIndex))
    ∷ []) s

-- a call, by its source field
abbrev pub call_form : ℕ → Result Form DecodeFault
call_form s =
    look_up (no_form UnknownOpcode)
    ((0, Ok Call) ∷ (1, Err (NotInProfile LocalCall)) ∷ (2, Err (NotInProfile BtfCall)) ∷ []) s

-- the form of an opcode with that source field, or why it has none
abbrev pub form_of : ℕ → ℕ → Result Form DecodeFault
form_of n s =
    if nat_eq n 0x18 then wide_form s else (if nat_eq n 0x85 then call_form s else plain_form n)
