-- The stack of the interpreter as the stack of the machine (RFC 9669, section 5), byte by
-- byte. A byte is what its mark says: 1 where a number was written to it, 0 where none was or a
-- pointer was stored over it.
use Rattle.std.specs.Prelude.{ℕ, ◌/◌, ◌%◌, nat_eq, List, Option, Some, None, slice_index, slice_index_or, if◌then◌else◌}
use Rattle.scx_isa_semantics.specs.declared.values.Pointer.{Pointer}
use Rattle.scx_isa_semantics.specs.declared.values.StackByte.{StackByte}
use Rattle.scx_isa_semantics.specs.declared.values.StackByte.TheVariants.{Unwritten, Byte, Part}
use Rattle.scx_isa_semantics.specs.Memory as memory
use Rattle.scx_vm_tagged.specs.declared.stack.Stack.{Stack}

-- a part of the pointer that was stored there, if there is one
abbrev pub part_of : Option Pointer → ℕ → StackByte
part_of None j = Unwritten
part_of (Some p) j = Part p j

-- a byte by its mark, the number written to it, the pointer of its eight bytes and its
-- number among these
abbrev pub byte_of : ℕ → ℕ → Option Pointer → ℕ → StackByte
byte_of mark n p j =
    if nat_eq mark 1 then Byte n else if nat_eq mark 0 then part_of p j else Unwritten

-- a stack by the marks and the numbers of its bytes and the pointers of each eight
unfoldable pub stack_of : List ℕ → List ℕ → List (Option Pointer) → memory.Stack
stack_of marks bytes pointers k =
    byte_of (slice_index marks k) (slice_index bytes k)
    (slice_index_or pointers (k / 8) None) (k % 8)

-- the interpreter's stack as one of the definitions, by its marks, bytes and pointers
abbrev pub seen_stack : Stack → memory.Stack
seen_stack s = stack_of s.marks s.bytes s.pointers
