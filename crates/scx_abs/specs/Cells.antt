-- Cells of the stack, and the order on them. A cell that knows more written bytes is
-- covered by one that knows fewer; a stored pointer by one of a kind that covers its kind, and by
-- a cell that knows nothing.
use Rattle.std.specs.Prelude.{◌≡◌, ℕ, zero, suc, ◌+◌, ◌<◌, Bool, true, false, ◌&&◌, ◌||◌, nat_le, nat_lt, List, [], ◌∷◌, length, slice_index_or, Option, Some, None, IsTrue}
use Rattle.scx_abs.specs.declared.kinds.Kind.{Kind}
use Rattle.scx_abs.specs.declared.kinds.Kind.TheVariants.{Unusable, Num, Stack, Elem, ElemOrNull, Task, TaskOrNull, MapRef}
use Rattle.scx_abs.specs.declared.kinds.Held.{Held}
use Rattle.scx_abs.specs.declared.kinds.Held.TheVariants as held
use Rattle.scx_abs.specs.declared.kinds.Cell.{Cell}
use Rattle.scx_abs.specs.declared.kinds.Cell.TheVariants.{Bytes, Pointer}
use Rattle.scx_abs.specs.Kinds.{CoversKind, IsProperKind, join_kind}

-- ---- stored pointers

-- the kind of a register that a stored pointer is loaded to
abbrev pub kind_of : Held → Kind
kind_of (held.Stack o) = Stack o
kind_of (held.Elem m r) = Elem m r
kind_of (held.ElemOrNull m) = ElemOrNull m
kind_of held.Task = Task
kind_of held.TaskOrNull = TaskOrNull
kind_of (held.MapRef m) = MapRef m

-- the stored pointer of a register of that kind, if it is one's
abbrev pub held_of : Kind → Option Held
held_of Unusable = None
held_of (Num r) = None
held_of (Stack o) = Some (held.Stack o)
held_of (Elem m r) = Some (held.Elem m r)
held_of (ElemOrNull m) = Some (held.ElemOrNull m)
held_of Task = Some held.Task
held_of TaskOrNull = Some held.TaskOrNull
held_of (MapRef m) = Some (held.MapRef m)

-- ---- bytes

-- whether the byte of that number is known to be written
abbrev pub is_written : List Bool → ℕ → Bool
is_written set j = slice_index_or set j false

-- the eight answers of a test
abbrev pub each_byte : (ℕ → Bool) → List Bool
each_byte f = f 0 ∷ f 1 ∷ f 2 ∷ f 3 ∷ f 4 ∷ f 5 ∷ f 6 ∷ f 7 ∷ []

-- eight bytes none of which is known to be written
abbrev pub no_bytes : List Bool
no_bytes = each_byte (λ j. false)

-- the bytes that are known to be written in both
abbrev pub common : List Bool → List Bool → List Bool
common a b = each_byte (λ j. is_written a j && is_written b j)

-- the set with that many bytes from one on
abbrev pub with_bytes : List Bool → ℕ → ℕ → List Bool
with_bytes set first count =
    each_byte (λ j. is_written set j || (nat_le first j && nat_lt j (first + count)))

-- that many bytes from one on are known to be written
abbrev pub all_written : List Bool → ℕ → ℕ → Bool
all_written set j zero = true
all_written set j (suc n) = is_written set j && all_written set (j + 1) n

-- the bytes of a cell that are known to hold numbers
abbrev pub written_in : Cell → List Bool
written_in (Bytes set) = set
written_in (Pointer k) = no_bytes

-- ---- order

-- those of the eight bytes that the first says are written the second says are written too
abbrev pub IsPartOf : List Bool → List Bool → Type 0
IsPartOf b a = (j : ℕ) → j < 8 → IsTrue (is_written b j) → IsTrue (is_written a j)

-- the first covers the second
abbrev pub CoversCell : Cell → Cell → Type 0
CoversCell (Bytes b) (Bytes a) = IsPartOf b a
CoversCell (Bytes b) (Pointer k) = IsPartOf b no_bytes
CoversCell (Pointer j) (Pointer k) = CoversKind (kind_of j) (kind_of k)
CoversCell (Pointer j) (Bytes a) = ⊥

-- ---- proper cells

-- it holds a pointer of a proper kind, or it says of each of the eight bytes whether it is
-- known to be written
abbrev pub IsProperCell : Cell → Type 0
IsProperCell (Bytes set) = length set ≡ 8
IsProperCell (Pointer k) = IsProperKind (kind_of k)

-- ---- join

-- the cell of a stored pointer, if there is one
abbrev pub cell_of : Option Held → Cell
cell_of None = Bytes no_bytes
cell_of (Some k) = Pointer k

-- the cell of two stored pointers, by the join of their kinds
abbrev pub join_pointers : Held → Held → Cell
join_pointers j k = cell_of (held_of (join_kind (kind_of j) (kind_of k)))

-- the least cell that covers both; it knows nothing of bytes joined with a pointer
abbrev pub join_cell : Cell → Cell → Cell
join_cell (Bytes a) (Bytes b) = Bytes (common a b)
join_cell (Pointer j) (Pointer k) = join_pointers j k
join_cell (Bytes a) (Pointer k) = Bytes no_bytes
join_cell (Pointer j) (Bytes b) = Bytes no_bytes
