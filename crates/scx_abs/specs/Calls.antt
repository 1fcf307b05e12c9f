-- The rule of helper calls: the helper is there, then it may be called in this callback,
-- then each argument from r1 on is what it takes. After a call r0 has the answer's kind, and
-- r1 to r5 are unusable.
use Rattle.std.specs.Prelude.{ℕ, zero, suc, ◌+◌, ◌/◌, ◌%◌, pos, Bool, true, false, ◌&&◌, nat_le, nat_lt, List, [], ◌∷◌, Option, Some, None, Result, Ok, Err, if◌then◌else◌}
use Rattle.scx_isa_semantics.specs.declared.callbacks.Callback.{Callback}
use Rattle.scx_isa_semantics.specs.declared.host_tables.Helper.{Helper}
use Rattle.scx_isa_semantics.specs.declared.host_tables.Helper.TheVariants as helper
use Rattle.scx_isa_semantics.specs.declared.host_tables.Parameter.{Parameter}
use Rattle.scx_isa_semantics.specs.declared.host_tables.Parameter.TheVariants as parameter
use Rattle.scx_isa_semantics.specs.HostTables.{parameters, answers_task, is_allowed, fits_map}
use Rattle.scx_isa_semantics.specs.declared.operations.Size.{Size}
use Rattle.scx_isa_semantics.specs.Memory.{stack_size, size_bytes, access_size}
use Rattle.scx_isa_semantics.specs.declared.host_tables.MapHelper.TheVariants.{Pop, Peek, LookUpPerCpu}
use Rattle.scx_isa_semantics.specs.declared.map_kinds.MapKind.{MapKind}
use Rattle.scx_isa_semantics.specs.Directories.{key_size}
use Rattle.scx_isa_semantics.specs.Calls.{key_access}
use Rattle.scx_maps.specs.declared.shape.Shape.{Shape}
use Rattle.scx_maps.specs.Slots.{slots}
use Rattle.scx_maps.specs.Layout.{shape_at}
use Rattle.scx_abs_ranges.specs.Ranges.{all}
use Rattle.scx_abs.specs.declared.faults.Why.{Why}
use Rattle.scx_abs.specs.declared.faults.Why.TheVariants.{UnusableRegister, OutOfBounds, UnwrittenStack, NullNotTested, UnknownHelper, HelperNotHere, BadArgument}
use Rattle.scx_abs.specs.declared.kinds.Kind.{Kind}
use Rattle.scx_abs.specs.declared.kinds.Kind.TheVariants.{Unusable, Num, Stack, Elem, ElemOrNull, Task, TaskOrNull, MapRef}
use Rattle.scx_abs.specs.declared.kinds.Cell.{Cell}
use Rattle.scx_abs.specs.declared.kinds.Cell.TheVariants.{Bytes}
use Rattle.scx_abs.specs.declared.states.AbsState.{AbsState}
use Rattle.scx_abs.specs.declared.rules.Next.{Next}
use Rattle.scx_abs.specs.Cells.{all_written, is_written, with_bytes, written_in}
use Rattle.scx_abs.specs.States.{kind_at, cell_at, with_kind, with_cell}
use Rattle.scx_isa_semantics.specs.Results.{◌>>=◌}
use Rattle.scx_abs.specs.Checks.{goes_on, element_size, offset_for, offsets_for}

-- ---- arguments

-- the map to which a register of that kind refers, or the first one
abbrev pub map_named : Kind → ℕ
map_named (MapRef m) = m
map_named k = 0

-- the map to which r1 refers
abbrev pub map_at_hand : AbsState → ℕ
map_at_hand a = map_named (kind_at a 1)

-- the kind of the map of that number
abbrev pub kind_of_map : List Shape → ℕ → MapKind
kind_of_map shapes m = (shape_at shapes m).kind

-- the size of a key of the map at hand
abbrev pub key_size_at_hand : List Shape → AbsState → Size
key_size_at_hand shapes a =
    access_size (key_access (key_size (kind_of_map shapes (map_at_hand a))))

-- the number of bytes of a key of the map at hand
abbrev pub key_bytes_at_hand : List Shape → AbsState → ℕ
key_bytes_at_hand shapes a = size_bytes (key_size_at_hand shapes a)

-- the number of bytes of a value of the map at hand
abbrev pub value_bytes_at_hand : List Shape → AbsState → ℕ
value_bytes_at_hand shapes a = element_size shapes (map_at_hand a)

-- n bytes of a cell, from one on, are known to hold numbers
abbrev pub key_in : Cell → ℕ → ℕ → Result (Unit {0}) Why
key_in cell j n = if all_written (written_in cell) j n then Ok tt else Err UnwrittenStack

-- a key of n bytes is in the stack or in an element
abbrev pub key_check : List Shape → AbsState → ℕ → Kind → Result (Unit {0}) Why
key_check shapes a n (Stack o) = do
  at ← offset_for stack_size n (Some o)
  key_in (cell_at a (at / 8)) (at % 8) n
key_check shapes a n (Elem m r) = offsets_for (element_size shapes m) n r (pos 0)
key_check shapes a n (ElemOrNull m) = Err NullNotTested
key_check shapes a n k = Err BadArgument

-- n bytes to which a register of that kind points are in the stack or in an element, wherever they
-- begin
abbrev pub room_check : List Shape → ℕ → Kind → Result (Unit {0}) Why
room_check shapes n (Stack o) = if nat_le (o + n) stack_size then Ok tt else Err OutOfBounds
room_check shapes n (Elem m r) =
    if nat_le (r.high + n) (element_size shapes m) then Ok tt else Err OutOfBounds
room_check shapes n (ElemOrNull m) = Err NullNotTested
room_check shapes n k = Err BadArgument

-- true if n bytes of the stack, from one on, are known to hold numbers
abbrev pub are_written : AbsState → ℕ → ℕ → Bool
are_written a at zero = true
are_written a at (suc n) =
    is_written (written_in (cell_at a (at / 8))) (at % 8) && are_written a (at + 1) n

-- n bytes that are in the stack are known to hold numbers
abbrev pub filled_check : AbsState → ℕ → Kind → Result (Unit {0}) Why
filled_check a n (Stack o) = if are_written a o n then Ok tt else Err UnwrittenStack
filled_check a n k = Ok tt

-- a value of n bytes is in the stack or in an element, and known to be numbers
abbrev pub value_check : List Shape → AbsState → ℕ → Kind → Result (Unit {0}) Why
value_check shapes a n k = do
  room ← room_check shapes n k
  filled_check a n k

-- a parameter for a task takes a pointer to one that was tested, if it may have been null
abbrev pub task_check : Kind → Result (Unit {0}) Why
task_check Task = Ok tt
task_check TaskOrNull = Err NullNotTested
task_check k = Err BadArgument

-- true if a helper's parameter takes maps of that shape; one that is written to has elements
abbrev pub takes_shape : Parameter → Shape → Bool
takes_shape parameter.LineMap s = fits_map parameter.LineMap s.kind && nat_lt 0 (slots s)
takes_shape p s = fits_map p s.kind

-- a parameter for a map, of whichever kinds
abbrev pub IsMapParameter : Parameter → Type 0
IsMapParameter parameter.Map = Unit {0}
IsMapParameter parameter.PerCpuMap = Unit {0}
IsMapParameter parameter.LineMap = Unit {0}
IsMapParameter p = ⊥

-- a parameter for a map takes a reference to one of its kinds, whichever it is
abbrev pub map_check : List Shape → Parameter → Kind → Result (Unit {0}) Why
map_check shapes p (MapRef m) =
    if takes_shape p (shape_at shapes m) then Ok tt else Err BadArgument
map_check shapes p k = Err BadArgument

-- a parameter for a number takes any, whatever its range
abbrev pub number_check : Kind → Result (Unit {0}) Why
number_check (Num r) = Ok tt
number_check k = Err BadArgument

-- the check of what a parameter takes, on an argument of a usable kind
abbrev pub takes : List Shape → AbsState → Parameter → Kind → Result (Unit {0}) Why
takes shapes a parameter.Key k = key_check shapes a (key_bytes_at_hand shapes a) k
takes shapes a parameter.Value k = value_check shapes a (value_bytes_at_hand shapes a) k
takes shapes a parameter.Room k = room_check shapes (value_bytes_at_hand shapes a) k
takes shapes a parameter.Task k = task_check k
takes shapes a parameter.Number k = number_check k
takes shapes a p k = map_check shapes p k

-- the check of one argument
abbrev pub argument_check : List Shape → AbsState → Parameter → Kind → Result (Unit {0}) Why
argument_check shapes a p Unusable = Err UnusableRegister
argument_check shapes a p k = takes shapes a p k

-- those of several, from a register on
abbrev pub arguments_check : List Shape → AbsState → List Parameter → ℕ → Result (Unit {0}) Why
arguments_check shapes a [] r = Ok tt
arguments_check shapes a (p ∷ ps) r = do
  here ← argument_check shapes a p (kind_at a r)
  arguments_check shapes a ps (r + 1)

-- ---- after a call

-- the state with r1 to r5 unusable
abbrev pub without_arguments : AbsState → AbsState
without_arguments a =
    with_kind
    (with_kind (with_kind (with_kind (with_kind a 1 Unusable) 2 Unusable) 3 Unusable) 4 Unusable)
    5 Unusable

-- the state after a helper was called: its answer's kind in r0, r1 to r5 unusable, the stack kept
abbrev pub after_call : AbsState → Kind → AbsState
after_call a k = with_kind (without_arguments a) 0 k

-- an element of the map, or 0
abbrev pub element_of : Kind → Kind
element_of (MapRef m) = ElemOrNull m
element_of k = Unusable

-- the kind of a helper's answer, by that of its first argument
abbrev pub answer_kind : Helper → Kind → Kind
answer_kind helper.MapLookupElem k = element_of k
answer_kind (helper.OnMap LookUpPerCpu) k = element_of k
answer_kind h k = if answers_task h then TaskOrNull else Num all

-- the state where a number was written to that byte of the stack
abbrev pub with_byte : AbsState → ℕ → AbsState
with_byte a at =
    with_cell a (at / 8) (Bytes (with_bytes (written_in (cell_at a (at / 8))) (at % 8) 1))

-- the state where numbers were written to n bytes of the stack, from one on
abbrev pub with_written : AbsState → ℕ → ℕ → AbsState
with_written a at zero = a
with_written a at (suc n) = with_written (with_byte a at) (at + 1) n

-- the state where n bytes were written to which a register of that kind points
abbrev pub filled : AbsState → ℕ → Kind → AbsState
filled a n (Stack o) = with_written a o n
filled a n k = a

-- true if a helper writes a value to which r2 points
abbrev pub gives_value : Helper → Bool
gives_value (helper.OnMap Pop) = true
gives_value (helper.OnMap Peek) = true
gives_value h = false

-- the state where a helper wrote what it gives
abbrev pub after_giving : List Shape → Helper → AbsState → AbsState
after_giving shapes h a =
    if gives_value h then filled a (value_bytes_at_hand shapes a) (kind_at a 2) else a

-- ---- calls

-- the rule of a call that the callback allows: each argument is checked, then the call is made
abbrev pub call_allowed : List Shape → Helper → AbsState → Result Next Why
call_allowed shapes h a = do
  fine ← arguments_check shapes a (parameters h) 1
  goes_on (after_call (after_giving shapes h a) (answer_kind h (kind_at a 1)))

-- the rule of a call of that helper, if there is one and the callback allows it
abbrev pub call_rule : List Shape → Callback → Option Helper → AbsState → Result Next Why
call_rule shapes c None a = Err UnknownHelper
call_rule shapes c (Some h) a =
    if is_allowed h c then call_allowed shapes h a else Err HelperNotHere
