-- Abstract states: a kind for each register and a cell for each eight bytes of the stack. They are
-- ordered register by register and cell by cell.
use Rattle.std.specs.Prelude.{◌≡◌, ℕ, [], length, set, replicate, slice_get, slice_index_or, Option, Some, None, All}
use Rattle.scx_isa_semantics.specs.declared.callbacks.Callback.{Callback}
use Rattle.scx_isa_semantics.specs.declared.callbacks.ArgumentKind.{ArgumentKind}
use Rattle.scx_isa_semantics.specs.declared.callbacks.ArgumentKind.TheVariants as argument
use Rattle.scx_isa_semantics.specs.Arguments.{callback_arguments}
use Rattle.scx_isa_semantics.specs.Memory.{stack_size}
use Rattle.scx_abs_ranges.specs.Ranges.{all}
use Rattle.scx_abs.specs.declared.kinds.Kind.{Kind}
use Rattle.scx_abs.specs.declared.kinds.Kind.TheVariants.{Unusable, Num, Stack, Task, TaskOrNull}
use Rattle.scx_abs.specs.declared.kinds.Cell.{Cell}
use Rattle.scx_abs.specs.declared.kinds.Cell.TheVariants.{Bytes}
use Rattle.scx_abs.specs.declared.states.AbsState.{AbsState}
use Rattle.scx_abs.specs.Kinds.{CoversKind, IsProperKind}
use Rattle.scx_abs.specs.Cells.{CoversCell, IsProperCell, no_bytes}

-- the kind of a register, by its number
abbrev pub kind_at : AbsState → ℕ → Kind
kind_at a r = slice_index_or a.registers r Unusable

-- the cell of that number, which holds the eight bytes from eight times its number on
abbrev pub cell_at : AbsState → ℕ → Cell
cell_at a c = slice_index_or a.cells c (Bytes [])

-- the state with that kind for a register, by its number; there is no change past r10
abbrev pub with_kind : AbsState → ℕ → Kind → AbsState
with_kind a r k = record { registers = set a.registers r k; cells = a.cells }

-- the state with another cell of that number; there is no change past the last
abbrev pub with_cell : AbsState → ℕ → Cell → AbsState
with_cell a c cell = record { registers = a.registers; cells = set a.cells c cell }

-- the first covers the second
pub record CoversState (b a : AbsState) : Type 0 where
  pub registers : (r : ℕ) → CoversKind (kind_at b r) (kind_at a r)
  pub cells : (c : ℕ) → CoversCell (cell_at b c) (cell_at a c)

-- there is a state, and it covers that one
abbrev pub CoversSome : Option AbsState → AbsState → Type 0
CoversSome None a = ⊥
CoversSome (Some b) a = CoversState b a

-- ---- proper states

-- as many kinds and cells as there are registers and cells
pub record IsWhole (a : AbsState) : Type 0 where
  pub registers : length a.registers ≡ 11
  pub cells : length a.cells ≡ 64

-- A state as rules and joins make them, whole and of proper kinds and cells. Lists in a definition
-- may have any length, and a state with too few cells would forget every store; numbers there
-- may be any three, and results of what is no range mean nothing. So what is said of least states
-- is said of proper ones.
pub record IsProper (a : AbsState) : Type 0 where
  pub whole : IsWhole a
  pub kinds : All IsProperKind a.registers
  pub cells : All IsProperCell a.cells

-- ---- start

-- the kinds of a callback's arguments, in r1 to r3
pub record ArgumentKinds : Type 0 where
  pub first : Kind
  pub second : Kind
  pub third : Kind

-- what is known of an argument; unusable where a callback has none
abbrev pub argument_kind : Option ArgumentKind → Kind
argument_kind None = Unusable
argument_kind (Some argument.Task) = Task
argument_kind (Some argument.TaskOrNull) = TaskOrNull
argument_kind (Some argument.Number) = Num all

-- what is known of a callback's arguments
abbrev pub argument_kinds : Callback → ArgumentKinds
argument_kinds c = record {
  first = argument_kind (slice_get (callback_arguments c) 0);
  second = argument_kind (slice_get (callback_arguments c) 1);
  third = argument_kind (slice_get (callback_arguments c) 2);
}

-- The state in which a callback begins: its arguments in r1 to r3, the top of the stack in r10, and
-- nothing else.
abbrev pub start_kinds : ArgumentKinds → AbsState
start_kinds a = record {
  registers =
      set (set (set (set (replicate 11 Unusable) 1 a.first) 2 a.second) 3 a.third) 10
      (Stack stack_size);
  cells = replicate 64 (Bytes no_bytes);
}

-- the state in which that callback begins
abbrev pub start_of : Callback → AbsState
start_of c = start_kinds (argument_kinds c)
