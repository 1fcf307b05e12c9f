-- The meaning of an abstract state: the states of a running program whose registers and stack fit
-- it. A number in a register is a member of its range, and so is the offset of a pointer into an
-- element; bytes are below 256.
use Rattle.std.specs.Prelude.{ℕ, ◌+◌, ◌*◌, ◌≡◌, ◌<◌, List, Some, length, IsTrue}
use Rattle.scx_isa_semantics.specs.declared.values.Value.{Value}
use Rattle.scx_isa_semantics.specs.declared.values.Value.TheVariants as value
use Rattle.scx_isa_semantics.specs.declared.values.Pointer.TheVariants as pointer
use Rattle.scx_isa_semantics.specs.declared.values.StackByte.{StackByte}
use Rattle.scx_isa_semantics.specs.declared.values.StackByte.TheVariants as byte
use Rattle.scx_isa_semantics.specs.declared.operations.Size.TheVariants.{DoubleWord}
use Rattle.scx_isa_semantics.specs.Elements.{Maps, count, elements}
use Rattle.scx_isa_semantics.specs.Machine.{Machine}
use Rattle.scx_isa_semantics.specs.Memory as memory
use Rattle.scx_isa_semantics.specs.Memory.{bytes_at, value_bytes}
use Rattle.scx_maps.specs.declared.shape.Shape.{Shape}
use Rattle.scx_abs_ranges.specs.Ranges.{IsIn}
use Rattle.scx_maps.specs.Contents.{HasShapes}
use Rattle.scx_abs.specs.declared.kinds.Kind.{Kind}
use Rattle.scx_abs.specs.declared.kinds.Kind.TheVariants.{Unusable, Num, Stack, Elem, ElemOrNull, Task, TaskOrNull, MapRef}
use Rattle.scx_abs.specs.declared.kinds.Cell.{Cell}
use Rattle.scx_abs.specs.declared.kinds.Cell.TheVariants.{Bytes, Pointer}
use Rattle.scx_abs.specs.declared.states.AbsState.{AbsState}
use Rattle.scx_abs.specs.Cells.{kind_of, is_written}
use Rattle.scx_abs.specs.States.{kind_at, cell_at}

-- the map has an element of that index
abbrev pub HasElement : Maps → ℕ → ℕ → Type 0
HasElement maps m i = i < length (elements maps m)

-- the kind describes the value
abbrev pub Stands : Maps → Kind → Value → Type 0
Stands maps Unusable v = Unit {0}
Stands maps (Num r) (value.Number n) = IsIn n r
Stands maps (Stack o) (value.Pointer (pointer.Stack p)) = o ≡ p
Stands maps (Elem m r) (value.Pointer (pointer.Element n i p)) =
    (m ≡ n) × IsIn p r × HasElement maps n i
Stands maps (ElemOrNull m) (value.Number n) = n ≡ 0
Stands maps (ElemOrNull m) (value.Pointer (pointer.Element n i p)) =
    (m ≡ n) × (0 ≡ p) × HasElement maps n i
Stands maps Task (value.Pointer (pointer.Task t)) = Unit {0}
Stands maps TaskOrNull (value.Number n) = n ≡ 0
Stands maps TaskOrNull (value.Pointer (pointer.Task t)) = Unit {0}
Stands maps (MapRef m) (value.Pointer (pointer.Map n)) = (m ≡ n) × (n < count maps)
Stands maps k v = ⊥

-- a number was written to the byte
abbrev pub IsByte : StackByte → Type 0
IsByte (byte.Byte b) = b < 256
IsByte byte.Unwritten = ⊥
IsByte (byte.Part p j) = ⊥

-- The cell describes the eight bytes from an offset on: those of its set hold numbers, or all
-- eight are those of a value that its kind describes. Null is stored as eight zero bytes.
abbrev pub CellStands : Maps → Cell → memory.Stack → ℕ → Type 0
CellStands maps (Bytes set) stack at =
    (j : ℕ) → j < 8 → IsTrue (is_written set j) → IsByte (stack (at + j))
CellStands maps (Pointer k) stack at =
    (v : Value) × Stands maps (kind_of k) v
    × (value_bytes DoubleWord v ≡ Some (bytes_at stack at 8))

-- the abstract state describes the state of a program with maps of these shapes
pub record IsMember (shapes : List Shape) (a : AbsState) (m : Machine) : Type 0 where
  pub registers : (r : ℕ) → Stands m.maps (kind_at a r) (m.registers r)
  pub cells : (c : ℕ) → CellStands m.maps (cell_at a c) m.stack (8 * c)
  pub maps : HasShapes shapes m.maps
