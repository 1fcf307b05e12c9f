-- The rule of each instruction: what it needs of the abstract state before it, check by check,
-- and what flows on from it. A check that fails gives its refusal, and the checks after it aren't
-- looked at. A register that is written is looked at first, then the registers that are read, the
-- destination before the source, then the address, and then the value that is stored.
use Rattle.std.specs.Prelude.{ℕ, ◌/◌, ◌%◌, ℤ, pos, unsigned_abs, Bool, true, false, ◌&&◌, nat_eq, nat_lt, List, length, Option, Some, None, option_map, Result, Ok, Err, if◌then◌else◌}
use Rattle.scx_isa_semantics.specs.declared.instructions.Insn.{Insn}
use Rattle.scx_isa_semantics.specs.declared.instructions.Insn.TheVariants as insn
use Rattle.scx_isa_semantics.specs.declared.instructions.Operand.{Operand}
use Rattle.scx_isa_semantics.specs.declared.instructions.Operand.TheVariants as operand
use Rattle.scx_isa_semantics.specs.declared.operations.Width.{Width}
use Rattle.scx_isa_semantics.specs.declared.operations.Width.TheVariants.{Bits32, Bits64}
use Rattle.scx_isa_semantics.specs.declared.operations.Operation.{Operation}
use Rattle.scx_isa_semantics.specs.declared.operations.Operation.TheVariants.{Add, Move}
use Rattle.scx_isa_semantics.specs.declared.operations.Comparison.{Comparison}
use Rattle.scx_isa_semantics.specs.declared.operations.Comparison.TheVariants.{Equal, NotEqual}
use Rattle.scx_isa_semantics.specs.declared.operations.Size.{Size}
use Rattle.scx_isa_semantics.specs.declared.operations.Size.TheVariants as size
use Rattle.scx_isa_semantics.specs.declared.operations.Access.{Access}
use Rattle.scx_isa_semantics.specs.declared.operations.Access.TheVariants as access
use Rattle.scx_isa_semantics.specs.declared.registers.Register.{Register}
use Rattle.scx_isa_semantics.specs.Registers.{number}
use Rattle.scx_isa_semantics.specs.Arithmetic.{at_distance, wide_immediate}
use Rattle.scx_isa_semantics.specs.Memory.{size_bytes, access_size, stack_size}
use Rattle.scx_isa_semantics.specs.declared.host_tables.Field.{Field}
use Rattle.scx_isa_semantics.specs.HostTables.{field_at, is_known_field, is_writable, helper_known, answers}
use Rattle.scx_isa_semantics.specs.declared.rules.Rules.{Rules}
use Rattle.scx_isa_semantics.specs.Meaning.{pointer_step, is_plain}
use Rattle.scx_maps.specs.declared.shape.Shape.{Shape}
use Rattle.scx_vm.specs.declared.context.Context.{Context}
use Rattle.scx_abs_ranges.specs.declared.ranges.Range.{Range}
use Rattle.scx_abs_ranges.specs.Ranges.{single, is_single}
use Rattle.scx_abs_ranges.specs.Cuts.{cut}
use Rattle.scx_abs_ranges.specs.Offsets.{offsets_plus_constant, offsets_plus_range}
use Rattle.scx_abs_ranges.specs.Results.{computed_at, move_range, negated_range, extended_range, swapped_range, loaded_range}
use Rattle.scx_abs.specs.declared.faults.Why.{Why}
use Rattle.scx_abs.specs.declared.faults.Why.TheVariants.{UnusableRegister, UnwrittenStack, OutOfBounds, NullNotTested, PointerArithmetic, PointerCompare, PointerStore, TaskField, BadReturn, UnknownMap}
use Rattle.scx_abs.specs.declared.kinds.Kind.{Kind}
use Rattle.scx_abs.specs.declared.kinds.Kind.TheVariants.{Unusable, Num, Stack, Elem, ElemOrNull, Task, TaskOrNull, MapRef}
use Rattle.scx_abs.specs.declared.kinds.Held.{Held}
use Rattle.scx_abs.specs.declared.kinds.Cell.{Cell}
use Rattle.scx_abs.specs.declared.kinds.Cell.TheVariants.{Bytes, Pointer}
use Rattle.scx_abs.specs.declared.states.AbsState.{AbsState}
use Rattle.scx_abs.specs.declared.rules.Next.{Next}
use Rattle.scx_abs.specs.declared.memory.Area.{Area}
use Rattle.scx_abs.specs.declared.memory.Area.TheVariants.{OnStack, InElement, InTask}
use Rattle.scx_abs.specs.Cells.{kind_of, held_of, with_bytes, all_written, written_in}
use Rattle.scx_abs.specs.States.{kind_at, cell_at, with_kind, with_cell}
use Rattle.scx_isa_semantics.specs.Results.{◌>>=◌}
use Rattle.scx_abs.specs.Checks.{flows, goes_on, usable, operand_kind, sets, element_size, offset_within, offset_for, offsets_for}
use Rattle.scx_abs.specs.Calls.{call_rule}

-- ---- arithmetic

-- a pointer to one of these offsets, where all of them stayed in the element
abbrev pub in_element : ℕ → Option Range → Result Kind Why
in_element m None = Err OutOfBounds
in_element m (Some r) = Ok (Elem m r)

-- a pointer that is moved stays in its memory, or comes to its end, just after the last byte
abbrev pub moved_by : List Shape → Kind → Option ℤ → Result Kind Why
moved_by shapes (Stack o) (Some k) = do
  to ← offset_within stack_size (at_distance o k)
  Ok (Stack to)
moved_by shapes (Elem m r) (Some k) =
    in_element m (offsets_plus_constant (element_size shapes m) r k)
moved_by shapes k distance = Err PointerArithmetic

-- a move copies a number, and one of 64 bits a pointer too
abbrev pub moved_kind : Width → Kind → Result Kind Why
moved_kind Bits64 k = Ok k
moved_kind Bits32 (Num r) = Ok (Num (move_range Bits32 r))
moved_kind Bits32 k = Err PointerArithmetic

-- what other arithmetic makes of a number and the operand's kind
abbrev pub computed_kind : Width → Operation → Range → Kind → Result Kind Why
computed_kind w o r (Num s) = Ok (Num (computed_at w o r s))
computed_kind w o r k = Err PointerArithmetic

-- a pointer into an element, a number of the operand's further on
abbrev pub advanced_by : List Shape → ℕ → Range → Kind → Result Kind Why
advanced_by shapes m r (Num s) = in_element m (offsets_plus_range (element_size shapes m) r s)
advanced_by shapes m r k = Err PointerArithmetic

-- A 64-bit sum with a register takes a pointer into an element that far on. Other arithmetic moves
-- it as it moves a pointer to the stack.
abbrev pub element_kind :
    List Shape → Width → Operation → Operand → ℕ → Range → Kind → Result Kind Why
element_kind shapes Bits64 Add (operand.Register d) m r k = advanced_by shapes m r k
element_kind shapes w o x m r k = moved_by shapes (Elem m r) (pointer_step w o x)

-- what it makes of the destination's kind and the operand's
abbrev pub arithmetic_kind :
    List Shape → Width → Operation → Operand → Kind → Kind → Result Kind Why
arithmetic_kind shapes w o x (Num r) k = computed_kind w o r k
arithmetic_kind shapes w o x (Elem m r) k = element_kind shapes w o x m r k
arithmetic_kind shapes w o x j k = moved_by shapes j (pointer_step w o x)

-- what arithmetic leaves that reads its destination before the operand: all but a move
abbrev pub combined_kind :
    List Shape → AbsState → Width → Operation → Register → Operand → Result Kind Why
combined_kind shapes a w o d x = do
  j ← usable (kind_at a (number d))
  k ← operand_kind a w x
  arithmetic_kind shapes w o x j k

-- what arithmetic leaves in its destination; a move reads the operand alone
abbrev pub binary_kind :
    List Shape → AbsState → Width → Operation → Register → Operand → Result Kind Why
binary_kind shapes a w Move d x = do
  k ← operand_kind a w x
  moved_kind w k
binary_kind shapes a w o d x = combined_kind shapes a w o d x

-- what is known of one number
abbrev pub numbers_of : Kind → Result Range Why
numbers_of (Num r) = Ok r
numbers_of Unusable = Err UnusableRegister
numbers_of k = Err PointerArithmetic

-- arithmetic on one number
abbrev pub number_kind : (Range → Range) → Kind → Result Kind Why
number_kind f k = do
  r ← numbers_of k
  Ok (Num (f r))

-- a reference to the map of that number
abbrev pub map_kind : List Shape → ℤ → Result Kind Why
map_kind shapes (pos m) = if nat_lt m (length shapes) then Ok (MapRef m) else Err UnknownMap
map_kind shapes k = Err UnknownMap

-- ---- memory

-- a field of a task, if an access takes one whole
abbrev pub field_area : Option Field → Result Area Why
field_area None = Err TaskField
field_area (Some f) = Ok (InTask f)

-- the memory that an address means, for that many bytes
abbrev pub area_of : List Shape → Kind → ℤ → ℕ → Result Area Why
area_of shapes (Stack o) offset n = do
  at ← offset_for stack_size n (at_distance o offset)
  Ok (OnStack at)
area_of shapes (Elem m r) offset n = do
  fine ← offsets_for (element_size shapes m) n r offset
  Ok InElement
area_of shapes Task offset n = field_area (field_at n (at_distance 0 offset))
area_of shapes (ElemOrNull m) offset n = Err NullNotTested
area_of shapes TaskOrNull offset n = Err NullNotTested
area_of shapes (Num r) offset n = Err OutOfBounds
area_of shapes (MapRef m) offset n = Err OutOfBounds
area_of shapes Unusable offset n = Err UnusableRegister

-- what a load gives that begins at that byte of the cell
abbrev pub loaded_kind : Cell → Access → ℕ → Result Kind Why
loaded_kind (Bytes set) a j =
    if all_written set j (size_bytes (access_size a)) then Ok (Num (loaded_range a))
    else Err UnwrittenStack
loaded_kind (Pointer k) access.DoubleWord j = Ok (kind_of k)
loaded_kind (Pointer k) a j = Err UnwrittenStack

-- Elements and fields hold numbers. A field is loaded without a sign, where a machine by these
-- rules has it.
abbrev pub kind_in : Rules → AbsState → Access → Area → Result Kind Why
kind_in by a access (OnStack at) = loaded_kind (cell_at a (at / 8)) access (at % 8)
kind_in by a access InElement = Ok (Num (loaded_range access))
kind_in by a access (InTask f) =
    if is_plain access && is_known_field f by then Ok (Num (loaded_range access))
    else Err TaskField

-- what a load leaves, from the address in a register with an offset added
abbrev pub load_kind : Context → AbsState → Access → Register → ℤ → Result Kind Why
load_kind c a access r offset = do
  base ← usable (kind_at a (number r))
  area ← area_of c.defs base offset (size_bytes (access_size access))
  kind_in c.rules a access area

-- the cell of a stored pointer
abbrev pub pointer_cell : Option Held → Result Cell Why
pointer_cell None = Err PointerStore
pointer_cell (Some k) = Ok (Pointer k)

-- the cell after a store that begins at that byte of it; a pointer takes all eight
abbrev pub stored_cell : Cell → Size → ℕ → Kind → Result Cell Why
stored_cell cell s j (Num r) = Ok (Bytes (with_bytes (written_in cell) j (size_bytes s)))
stored_cell cell size.DoubleWord j k = pointer_cell (held_of k)
stored_cell cell s j k = Err PointerStore

-- elements and fields take numbers alone
abbrev pub number_stored : AbsState → Kind → Result Next Why
number_stored a (Num r) = goes_on a
number_stored a k = Err PointerStore

-- the rule of a store to that area: the state with a value of that kind stored there goes on
abbrev pub stored_in : AbsState → Size → Kind → Area → Result Next Why
stored_in a s k (OnStack at) = do
  cell ← stored_cell (cell_at a (at / 8)) s (at % 8) k
  goes_on (with_cell a (at / 8) cell)
stored_in a s k InElement = number_stored a k
stored_in a s k (InTask f) = if is_writable f then number_stored a k else Err TaskField

-- the rule of a store of an operand to the address in a register with an offset added
abbrev pub store_rule : List Shape → AbsState → Size → Register → ℤ → Operand → Result Next Why
store_rule shapes a s r offset x = do
  base ← usable (kind_at a (number r))
  k ← operand_kind a Bits64 x
  area ← area_of shapes base offset (size_bytes s)
  stored_in a s k area

-- ---- jumps

-- whether a comparison is a test for 0, and whether it jumps where it finds 0
abbrev pub null_test : Width → Comparison → Operand → Option Bool
null_test Bits64 Equal (operand.Immediate k) = if nat_eq (unsigned_abs k) 0 then Some true else None
null_test Bits64 NotEqual (operand.Immediate k) =
    if nat_eq (unsigned_abs k) 0 then Some false else None
null_test w c x = None

-- the state where a register of that kind was found to be 0; a pointer that isn't null never is
abbrev pub if_null : AbsState → ℕ → Kind → Option AbsState
if_null a r (ElemOrNull m) = Some (with_kind a r (Num (single 0)))
if_null a r TaskOrNull = Some (with_kind a r (Num (single 0)))
if_null a r k = None

-- the state where it was found not to be
abbrev pub if_not_null : AbsState → ℕ → Kind → AbsState
if_not_null a r (ElemOrNull m) = with_kind a r (Elem m (single 0))
if_not_null a r TaskOrNull = with_kind a r Task
if_not_null a r k = a

-- what flows on from a pointer's comparison: each side of a test for 0, by whether it jumps at 0;
-- any other comparison is refused
abbrev pub null_test_rule : AbsState → ℕ → Kind → Option Bool → Result Next Why
null_test_rule a r k None = Err PointerCompare
null_test_rule a r k (Some true) = Ok (flows (Some (if_not_null a r k)) (if_null a r k))
null_test_rule a r k (Some false) = Ok (flows (if_null a r k) (Some (if_not_null a r k)))

-- the state where a comparison of the register's numbers with c has that answer; there is none
-- where no number is left
abbrev pub side : AbsState → ℕ → Comparison → Bool → ℕ → Range → Option AbsState
side a r o b c s = option_map (λ t. with_kind a r (Num t)) (cut o b c s)

-- Two numbers are followed both ways. A comparison of 64 bits with a single number tells on each
-- side which the register's are; the other register's, or the same in a copy, stay as they are.
abbrev pub sides : AbsState → ℕ → Width → Comparison → Range → Range → Next
sides a r Bits64 o s t =
    if is_single t then flows (side a r o false t.low s) (side a r o true t.low s)
    else flows (Some a) (Some a)
sides a r Bits32 o s t = flows (Some a) (Some a)

-- a number is compared with a number
abbrev pub numbers_compared : AbsState → ℕ → Width → Comparison → Range → Kind → Result Next Why
numbers_compared a r w o s (Num t) = Ok (sides a r w o s t)
numbers_compared a r w o s k = Err PointerCompare

-- a pointer is only tested for 0
abbrev pub comparison_rule :
    AbsState → ℕ → Width → Comparison → Option Bool → Kind → Kind → Result Next Why
comparison_rule a r w o test (Num s) k = numbers_compared a r w o s k
comparison_rule a r w o test j k = null_test_rule a r j test

-- the rule of a jump that compares a register with an operand
abbrev pub jump_rule : AbsState → Width → Comparison → Register → Operand → Result Next Why
jump_rule a w c r x = do
  j ← usable (kind_at a (number r))
  k ← operand_kind a w x
  comparison_rule a (number r) w c (null_test w c x) j k

-- ---- the end

-- the rule of the end where a callback answers a number: r0 has this kind, which is a number's
abbrev pub end_rule : Kind → Result Next Why
end_rule (Num r) = Ok (flows None None)
end_rule k = Err BadReturn

-- ---- all instructions

-- the rule of an instruction in a context: what flows on, or a refusal
abbrev pub rule : Context → Insn → AbsState → Result Next Why
rule c (insn.Binary w o d x) a = sets a (number d) (binary_kind c.defs a w o d x)
rule c (insn.Negate w d) a =
    sets a (number d) (number_kind (negated_range w) (kind_at a (number d)))
rule c (insn.SignExtend e d r) a =
    sets a (number d) (number_kind (extended_range e) (kind_at a (number r)))
rule c (insn.ByteSwap o w d) a =
    sets a (number d) (number_kind (swapped_range o w) (kind_at a (number d)))
rule c (insn.LoadImmediate d low_half high_half) a =
    sets a (number d) (Ok (Num (single (wide_immediate low_half high_half))))
rule c (insn.LoadMapReference d k) a = sets a (number d) (map_kind c.defs k)
rule c (insn.Load access d r offset) a =
    sets a (number d) (load_kind c a access r offset)
rule c (insn.Store s r offset x) a = store_rule c.defs a s r offset x
rule c (insn.JumpIf w k r x offset) a = jump_rule a w k r x
rule c (insn.Goto offset) a = Ok (flows None (Some a))
rule c (insn.GotoLong offset) a = Ok (flows None (Some a))
rule c (insn.Call k) a = call_rule c.defs c.callback (helper_known c.rules k) a
rule c insn.Exit a = if answers c.callback then end_rule (kind_at a 0) else Ok (flows None None)
