-- What the tokens of the canonical text say: the instruction with its numbers written out.
use Rattle.std.proofs.Common.{◌≡◌, suc, ℤ, pos, negsuc, Bool, true, false, codes, List, [], ◌∷◌, Some, refl, ◌∙◌}
use Rattle.scx_isa_semantics.specs.declared.operations.Width.{Width}
use Rattle.scx_isa_semantics.specs.declared.operations.Width.TheVariants.{Bits32, Bits64}
use Rattle.scx_isa_semantics.specs.declared.operations.Operation.{Operation}
use Rattle.scx_isa_semantics.specs.declared.operations.Operation.TheVariants.{Add, Subtract, Multiply, Divide, SignedDivide, Or, And, Xor, ShiftLeft, ShiftRight, ShiftRightSigned, Modulo, SignedModulo, Move}
use Rattle.scx_isa_semantics.specs.declared.operations.Extension.{Extension}
use Rattle.scx_isa_semantics.specs.declared.operations.Extension.TheVariants.{Low8To32, Low16To32, Low8To64, Low16To64, Low32To64}
use Rattle.scx_isa_semantics.specs.declared.operations.Size.{Size}
use Rattle.scx_isa_semantics.specs.declared.operations.Size.TheVariants as size
use Rattle.scx_isa_semantics.specs.declared.operations.Access.{Access}
use Rattle.scx_isa_semantics.specs.declared.operations.ByteOrder.{ByteOrder}
use Rattle.scx_isa_semantics.specs.declared.operations.ByteOrder.TheVariants.{Little, Big, Swapped}
use Rattle.scx_isa_semantics.specs.declared.operations.SwapWidth.{SwapWidth}
use Rattle.scx_isa_semantics.specs.declared.operations.SwapWidth.TheVariants as order
use Rattle.scx_isa_encoding.specs.Spelling.{IsInsn}
use Rattle.scx_asm_text.specs.Canonical.{insn_text}
use Rattle.scx_isa_semantics.specs.declared.registers.Register.{Register}
use Rattle.scx_isa_semantics.specs.declared.registers.Register.TheVariants.{R0, R1, R2, R3, R4, R5, R6, R7, R8, R9, R10}
use Rattle.scx_isa_semantics.specs.declared.instructions.Operand.{Operand}
use Rattle.scx_isa_semantics.specs.declared.instructions.Operand.TheVariants as operand
use Rattle.scx_isa_semantics.specs.declared.instructions.Insn.{Insn}
use Rattle.scx_isa_semantics.specs.declared.instructions.Insn.TheVariants as insn
use Rattle.scx_isa_semantics.specs.Arithmetic as arithmetic
use Rattle.scx_isa_semantics.specs.Arithmetic.{extension_width}
use Rattle.scx_asm_text.specs.declared.items.Literal.{Literal}
use Rattle.scx_asm_text.specs.declared.items.WrittenOperand.{WrittenOperand}
use Rattle.scx_asm_text.specs.declared.items.WrittenOperand.TheVariants as argument
use Rattle.scx_asm_text.specs.declared.items.Statement.TheVariants as statement
use Rattle.scx_asm_text.specs.declared.items.Jump.TheVariants as jump
use Rattle.scx_asm_text.specs.declared.symbols.Symbol.TheVariants.{Assign, Minus, Star, Opening, Closing}
use Rattle.scx_asm_text.specs.Names.{first_with_name, register_text, register_in, access_text, stored_access, stored_size, extension_of, extension_access, order_text}
use Rattle.scx_asm_text.specs.Tokens.{Lexeme, Word, Number, Mark}
use Rattle.scx_asm_text.specs.Items.{Distance, ItemValue, Says, Jumps, literal, read_literal, read_offset, read_destination, read_operand, read_memory_operand, same, behind_register, item_of, read_line}
use Rattle.scx_asm.proofs.NamesBack.{register_again, access_again}
use Rattle.scx_asm.proofs.InsnsBack.{signed_tokens, distance_tokens, offset_tokens, operand_tokens, memory_operand_tokens, insn_tokens, insn_read}

-- ---- the instruction, as a line says it

abbrev pub literal_as : ℤ → Literal
literal_as (pos n) = literal false (Some n)
literal_as (negsuc n) = literal true (Some (suc n))

abbrev pub argument_as : Operand → WrittenOperand
argument_as (operand.Immediate k) = argument.Number (literal_as k)
argument_as (operand.Register r) = argument.Register r

abbrev pub line_as : Insn → ItemValue
line_as (insn.Binary w o d x) = Says (statement.Binary w o d (argument_as x))
line_as (insn.Negate w d) = Says (statement.Negate w d)
line_as (insn.SignExtend e d r) = Says (statement.SignExtend e d r)
line_as (insn.ByteSwap o w d) = Says (statement.ByteSwap o w d)
line_as (insn.LoadImmediate d low high) = Says (statement.LoadImmediate d (literal false (Some (arithmetic.wide_immediate low high))))
line_as (insn.LoadMapReference d k) = Says (statement.LoadMapReference d (literal_as k))
line_as (insn.Load a d r o) = Says (statement.Load a d r (literal_as o))
line_as (insn.Store s r o x) = Says (statement.Store s r (literal_as o) (argument_as x))
line_as (insn.JumpIf w c r x o) = Jumps (jump.If w c r (argument_as x)) (Distance (literal_as o))
line_as (insn.Goto o) = Jumps jump.Goto (Distance (literal_as o))
line_as (insn.GotoLong o) = Jumps jump.GotoLong (Distance (literal_as o))
line_as (insn.Call k) = Says (statement.Call (literal_as k))
line_as insn.Exit = Says statement.Exit

-- ---- operands

literal_read : (near : Bool) (z : ℤ) (ts : List Lexeme) → read_literal (signed_tokens near z ts) ≡ Some (literal_as z, ts)
literal_read near (pos n) ts = refl
literal_read near (negsuc n) ts = refl

offset_read : (z : ℤ) (ts : List Lexeme) → read_offset (offset_tokens z ts) ≡ Some (literal_as z, ts)
offset_read (pos n) ts = refl
offset_read (negsuc n) ts = refl

destination_read : (z : ℤ) (ts : List Lexeme) → read_destination (distance_tokens z ts) ≡ Some (Distance (literal_as z), ts)
destination_read (pos n) ts = refl
destination_read (negsuc n) ts = refl

in_width : (w : Width) (r : Register) → register_in w (register_text w r) ≡ Some r
in_width Bits32 r = rw (register_again Bits32 r) refl
in_width Bits64 r = rw (register_again Bits64 r) refl

argument_read : (w : Width) (x : Operand) (ts : List Lexeme) → read_operand w (operand_tokens false w x ts) ≡ Some (argument_as x, ts)
argument_read w (operand.Immediate (pos n)) ts = refl
argument_read w (operand.Immediate (negsuc n)) ts = refl
argument_read w (operand.Register r) ts = rw (in_width w r) refl

memory_operand_read : (a : Access) (r : Register) (o : ℤ) (rest : List Lexeme) → read_memory_operand (Mark Opening ∷ Word (access_text a) ∷ Mark Star ∷ Mark Closing ∷ Mark Opening ∷ Word (register_text Bits64 r) ∷ offset_tokens o (Mark Closing ∷ rest))
    ≡ Some (record { access = a; base = r; offset = literal_as o }, rest)
memory_operand_read a r o rest = rw (access_again a, in_width Bits64 r, offset_read o (Mark Closing ∷ rest)) refl

same_is : (r : Register) → same r r ≡ true
same_is R0 = refl
same_is R1 = refl
same_is R2 = refl
same_is R3 = refl
same_is R4 = refl
same_is R5 = refl
same_is R6 = refl
same_is R7 = refl
same_is R8 = refl
same_is R9 = refl
same_is R10 = refl

extension_again : (e : Extension) → extension_of (extension_width e) (extension_access e) ≡ Some e
extension_again Low8To32 = refl
extension_again Low16To32 = refl
extension_again Low8To64 = refl
extension_again Low16To64 = refl
extension_again Low32To64 = refl

size_again : (s : Size) → stored_size (stored_access s) ≡ Some s
size_again size.Byte = refl
size_again size.HalfWord = refl
size_again size.Word = refl
size_again size.DoubleWord = refl

-- ---- lines that begin with a register

-- a line of a register and more is what its rest is
begun : (w : Width) (d : Register) (o : Operation) (ts : List Lexeme) → item_of (Word (register_text w d) ∷ Mark (Assign o) ∷ ts) ≡ behind_register w d (Mark (Assign o) ∷ ts)
begun w d o ts = rw (register_again w d) refl

operated_read : (w : Width) (o : Operation) (d : Register) (x : Operand) → behind_register w d (Mark (Assign o) ∷ operand_tokens false w x []) ≡ Some (Says (statement.Binary w o d (argument_as x)))
operated_read w Add d x = rw (argument_read w x []) refl
operated_read w Subtract d x = rw (argument_read w x []) refl
operated_read w Multiply d x = rw (argument_read w x []) refl
operated_read w Divide d x = rw (argument_read w x []) refl
operated_read w SignedDivide d x = rw (argument_read w x []) refl
operated_read w Or d x = rw (argument_read w x []) refl
operated_read w And d x = rw (argument_read w x []) refl
operated_read w Xor d x = rw (argument_read w x []) refl
operated_read w ShiftLeft d x = rw (argument_read w x []) refl
operated_read w ShiftRight d x = rw (argument_read w x []) refl
operated_read w ShiftRightSigned d x = rw (argument_read w x []) refl
operated_read w Modulo d x = rw (argument_read w x []) refl
operated_read w SignedModulo d x = rw (argument_read w x []) refl
operated_read w Move d (operand.Register r) = rw (in_width w r) refl
operated_read Bits32 Move d (operand.Immediate (pos n)) = refl
operated_read Bits64 Move d (operand.Immediate (pos n)) = refl
operated_read Bits32 Move d (operand.Immediate (negsuc n)) = refl
operated_read Bits64 Move d (operand.Immediate (negsuc n)) = refl

byte_swapped_read : (o : ByteOrder) (w : SwapWidth) (d : Register) → behind_register Bits64 d (Mark (Assign Move) ∷ Word (order_text (o, w)) ∷ Word (register_text Bits64 d) ∷ []) ≡ Some (Says (statement.ByteSwap o w d))
unfolding first_with_name
byte_swapped_read Little order.Bits16 d = rw (in_width Bits64 d, same_is d) refl
byte_swapped_read Little order.Bits32 d = rw (in_width Bits64 d, same_is d) refl
byte_swapped_read Little order.Bits64 d = rw (in_width Bits64 d, same_is d) refl
byte_swapped_read Big order.Bits16 d = rw (in_width Bits64 d, same_is d) refl
byte_swapped_read Big order.Bits32 d = rw (in_width Bits64 d, same_is d) refl
byte_swapped_read Big order.Bits64 d = rw (in_width Bits64 d, same_is d) refl
byte_swapped_read Swapped order.Bits16 d = rw (in_width Bits64 d, same_is d) refl
byte_swapped_read Swapped order.Bits32 d = rw (in_width Bits64 d, same_is d) refl
byte_swapped_read Swapped order.Bits64 d = rw (in_width Bits64 d, same_is d) refl

mapped_read : (d : Register) (k : ℤ) → behind_register Bits64 d (Mark (Assign Move) ∷ Word (codes "map") ∷ signed_tokens false k []) ≡ Some (Says (statement.LoadMapReference d (literal_as k)))
mapped_read d (pos n) = refl
mapped_read d (negsuc n) = refl

-- whatever the instruction
pub insn_said : (i : Insn) → item_of (insn_tokens i) ≡ Some (line_as i)
insn_said (insn.Binary w o d x) = begun w d o (operand_tokens false w x []) ∙ operated_read w o d x
insn_said (insn.Negate w d) = begun w d Move (Mark Minus ∷ Word (register_text w d) ∷ []) ∙ rw (in_width w d, same_is d) refl
insn_said (insn.SignExtend e d r) = begun (extension_width e) d Move (Mark Opening ∷ Word (access_text (extension_access e)) ∷ Mark Closing ∷ Word (register_text (extension_width e) r) ∷ []) ∙ rw (access_again (extension_access e), extension_again e, in_width (extension_width e) r) refl
insn_said (insn.ByteSwap o w d) = begun Bits64 d Move (Word (order_text (o, w)) ∷ Word (register_text Bits64 d) ∷ []) ∙ byte_swapped_read o w d
insn_said (insn.LoadImmediate d low high) = begun Bits64 d Move (Number false (Some (arithmetic.wide_immediate low high)) ∷ Word (codes "ll") ∷ [])
insn_said (insn.LoadMapReference d k) = begun Bits64 d Move (Word (codes "map") ∷ signed_tokens false k []) ∙ mapped_read d k
insn_said (insn.Load a d r o) = begun Bits64 d Move (memory_operand_tokens (access_text a) r o []) ∙ rw (memory_operand_read a r o []) refl
insn_said (insn.Store s r o x) = rw (memory_operand_read (stored_access s) r o (Mark (Assign Move) ∷ operand_tokens false Bits64 x []), size_again s, argument_read Bits64 x []) refl
insn_said (insn.JumpIf w c r x o) = rw (register_again w r, argument_read w x (Word (codes "goto") ∷ distance_tokens o []), destination_read o []) refl
insn_said (insn.Goto (pos n)) = refl
insn_said (insn.Goto (negsuc n)) = refl
insn_said (insn.GotoLong (pos n)) = refl
insn_said (insn.GotoLong (negsuc n)) = refl
insn_said (insn.Call (pos n)) = refl
insn_said (insn.Call (negsuc n)) = refl
insn_said insn.Exit = refl

-- the canonical text of an instruction is read as that instruction
pub insn_line : (i : Insn) → IsInsn i → read_line (insn_text i) ≡ Some (line_as i)
insn_line i h = rw (insn_read i h) (insn_said i)
