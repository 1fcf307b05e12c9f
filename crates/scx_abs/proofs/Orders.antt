-- The order on kinds, cells and states: it is one, and what covers more stands for more.
use Rattle.std.proofs.lemmas.Bool.{both_ways}
use Rattle.std.proofs.Common.{◌≡◌, ℕ, zero, suc, arith, ◌*◌, ◌<◌, ◌≤◌, Bool, false, refl, ◌∙◌, IsTrue}
use Rattle.scx_isa_semantics.specs.declared.values.Value.{Value}
use Rattle.scx_isa_semantics.specs.declared.values.Value.TheVariants as value
use Rattle.scx_isa_semantics.specs.declared.values.Pointer.TheVariants as pointer
use Rattle.scx_isa_semantics.specs.Elements.{Maps}
use Rattle.scx_isa_semantics.specs.Memory as memory
use Rattle.scx_abs_ranges.specs.declared.ranges.Range.{Range}
use Rattle.scx_abs_ranges.specs.Ranges.{IsIn, CoversRange}
use Rattle.scx_abs_ranges.proofs.Order.{covers_in}
use Rattle.scx_abs.specs.declared.kinds.Kind.{Kind}
use Rattle.scx_abs.specs.declared.kinds.Kind.TheVariants.{Unusable, Num, Stack, Elem, ElemOrNull, Task, TaskOrNull, MapRef}
use Rattle.scx_abs.specs.declared.kinds.Cell.{Cell}
use Rattle.scx_abs.specs.declared.kinds.Cell.TheVariants.{Bytes, Pointer}
use Rattle.scx_abs.specs.Kinds.{CoversKind}
use Rattle.scx_abs.specs.Cells.{kind_of, is_written, each_byte, no_bytes, CoversCell}
use Rattle.scx_abs.specs.States.{kind_at, cell_at}
use Rattle.scx_abs.specs.Stands.{Stands, CellStands}
use Rattle.scx_abs.specs.Laws.{CoversMore, CoversItself, CoversThrough}

-- ---- ranges

-- a range covers itself
pub range_itself : (r : Range) → CoversRange r r
range_itself r = record { low = omega arith; high = omega arith; shift = omega arith }

range_through : (t s r : Range) → CoversRange t s → CoversRange s r → CoversRange t r
range_through t s r g h =
    let first : t.low ≤ s.low = g.low in
    let second : s.low ≤ r.low = h.low in
    let third : s.high ≤ t.high = g.high in
    let fourth : r.high ≤ s.high = h.high in
    let fifth : t.shift ≤ s.shift = g.shift in
    let sixth : s.shift ≤ r.shift = h.shift in
    record { low = omega arith; high = omega arith; shift = omega arith }

-- what is covered by the offset 0 alone is no other
highest_covered : (s r : Range) → s.high ≡ 0 → CoversRange s r → r.high ≡ 0
highest_covered s r e g = let high : r.high ≤ s.high = g.high in omega arith

is_zero : (r : Range) (p : ℕ) → r.high ≡ 0 → IsIn p r → 0 ≡ p
is_zero r p e h = let high : p ≤ r.high = h.to_high in omega arith

-- ---- kinds

-- a kind covers itself
pub kind_itself : (k : Kind) → CoversKind k k
kind_itself Unusable = tt
kind_itself (Num r) = range_itself r
kind_itself (Stack o) = refl
kind_itself (Elem m r) = (refl, range_itself r)
kind_itself (ElemOrNull m) = refl
kind_itself Task = tt
kind_itself TaskOrNull = tt
kind_itself (MapRef m) = refl

-- and what is covered by one that it covers
pub kind_through : (l k j : Kind) → CoversKind l k → CoversKind k j → CoversKind l j
kind_through Unusable k j g h = tt
kind_through (Num t) (Num s) (Num r) g h = range_through t s r g h
kind_through (Stack o) (Stack p) (Stack q) g h = g ∙ h
kind_through (Elem m t) (Elem n s) (Elem l r) g h = (g.0 ∙ h.0, range_through t s r g.1 h.1)
kind_through (ElemOrNull m) (ElemOrNull n) (ElemOrNull l) g h = g ∙ h
kind_through (ElemOrNull m) (ElemOrNull n) (Elem l r) g h = (g ∙ h.0, h.1)
kind_through (ElemOrNull m) (Elem n s) (Elem l r) g h = (g.0 ∙ h.0, highest_covered s r g.1 h.1)
kind_through Task Task Task g h = tt
kind_through TaskOrNull TaskOrNull TaskOrNull g h = tt
kind_through TaskOrNull TaskOrNull Task g h = tt
kind_through TaskOrNull Task Task g h = tt
kind_through (MapRef m) (MapRef n) (MapRef l) g h = g ∙ h
kind_through l k j g h = absurd (assumption (g, h))

-- a kind stands for all that one stands for which it covers
pub kind_stands : (maps : Maps) (j k : Kind) (v : Value) → CoversKind j k → Stands maps k v → Stands maps j v
kind_stands maps Unusable k v g h = tt
kind_stands maps (Num s) (Num r) (value.Number n) g h = covers_in s r n g h
kind_stands maps (Stack o) (Stack p) v g h = rw g h
kind_stands maps (Elem m s) (Elem n r) (value.Pointer (pointer.Element l i p)) g h = (g.0 ∙ h.0, covers_in s r p g.1 h.1, h.2)
kind_stands maps (ElemOrNull m) (ElemOrNull n) v g h = rw g h
kind_stands maps (ElemOrNull m) (Elem n r) (value.Pointer (pointer.Element l i p)) g h = (g.0 ∙ h.0, is_zero r p g.1 h.1, h.2)
kind_stands maps Task Task v g h = h
kind_stands maps TaskOrNull TaskOrNull v g h = h
kind_stands maps TaskOrNull Task (value.Pointer (pointer.Task t)) g h = tt
kind_stands maps (MapRef m) (MapRef n) v g h = rw g h
kind_stands maps j k v g h = absurd (assumption (g, h))

-- ---- sets of bytes

-- the answer at each byte is that of the test
pub each_byte_at : (f : ℕ → Bool) (j : ℕ) → j < 8 → is_written (each_byte f) j ≡ f j
each_byte_at f zero h = refl
each_byte_at f (suc zero) h = refl
each_byte_at f (suc (suc zero)) h = refl
each_byte_at f (suc (suc (suc zero))) h = refl
each_byte_at f (suc (suc (suc (suc zero)))) h = refl
each_byte_at f (suc (suc (suc (suc (suc zero))))) h = refl
each_byte_at f (suc (suc (suc (suc (suc (suc zero)))))) h = refl
each_byte_at f (suc (suc (suc (suc (suc (suc (suc zero))))))) h = refl
each_byte_at f (suc (suc (suc (suc (suc (suc (suc (suc j)))))))) h = absurd (omega arith)

-- of no bytes none is written
pub none_written : (j : ℕ) → j < 8 → IsTrue (is_written no_bytes j) → ⊥
none_written j h w = both_ways (is_written no_bytes j) (each_byte_at (λ j. false) j h) w

-- ---- cells

-- a cell covers itself
pub cell_itself : (cell : Cell) → CoversCell cell cell
cell_itself (Bytes a) = λ j lt h. h
cell_itself (Pointer k) = kind_itself (kind_of k)

cell_through : (c b a : Cell) → CoversCell c b → CoversCell b a → CoversCell c a
cell_through (Bytes c) (Bytes b) (Bytes a) g h = λ j lt w. h j lt (g j lt w)
cell_through (Bytes c) (Bytes b) (Pointer k) g h = λ j lt w. h j lt (g j lt w)
cell_through (Bytes c) (Pointer k) (Bytes a) g h = absurd h
cell_through (Bytes c) (Pointer k) (Pointer j) g h = g
cell_through (Pointer k) (Bytes b) a g h = absurd g
cell_through (Pointer l) (Pointer k) (Bytes a) g h = absurd h
cell_through (Pointer l) (Pointer k) (Pointer j) g h = kind_through (kind_of l) (kind_of k) (kind_of j) g h

-- a cell stands for all that one stands for which it covers
pub cell_stands : (maps : Maps) (b a : Cell) (stack : memory.Stack) (at : ℕ) → CoversCell b a → CellStands maps a stack at → CellStands maps b stack at
cell_stands maps (Bytes b) (Bytes a) stack at g h = λ j lt w. h j lt (g j lt w)
cell_stands maps (Bytes b) (Pointer k) stack at g h = λ j lt w. absurd (none_written j lt (g j lt w))
cell_stands maps (Pointer j) (Pointer k) stack at g h = (h.0, kind_stands maps (kind_of j) (kind_of k) h.0 g h.1, h.2)
cell_stands maps (Pointer j) (Bytes a) stack at g h = absurd g

-- ---- states

-- the law of states: each covers itself
pub covers_itself : CoversItself
covers_itself a = record { registers = λ r. kind_itself (kind_at a r); cells = λ c. cell_itself (cell_at a c) }

-- and what is covered by one that it covers
pub covers_through : CoversThrough
covers_through c b a g h = record {
  registers = λ r. kind_through (kind_at c r) (kind_at b r) (kind_at a r) (g.registers r) (h.registers r);
  cells = λ i. cell_through (cell_at c i) (cell_at b i) (cell_at a i) (g.cells i) (h.cells i);
}

-- and it stands for more
pub covers_more : CoversMore
covers_more shapes b a m g h = record {
  registers = λ r. kind_stands m.maps (kind_at b r) (kind_at a r) (m.registers r) (g.registers r) (h.registers r);
  cells = λ c. cell_stands m.maps (cell_at b c) (cell_at a c) m.stack (8 * c) (g.cells c) (h.cells c);
  maps = h.maps;
}
