-- The questions that programs ask of their host.
use Rattle.std.specs.Prelude.{◌≡◌, ℕ, ◌==◌, Bool, false, List, map, Option, Some, None}
use Rattle.scx_isa_semantics.specs.declared.callbacks.Callback.{Callback}
use Rattle.scx_isa_semantics.specs.declared.callbacks.Callback.TheVariants as callback
use Rattle.scx_isa_semantics.specs.declared.host_tables.Field.{Field}
use Rattle.scx_isa_semantics.specs.declared.host_tables.Helper.{Helper}
use Rattle.scx_isa_semantics.specs.declared.host_tables.Helper.TheVariants.{DsqInsert, DsqInsertVtime}
use Rattle.scx_isa_semantics.specs.declared.host_tables.TaskId.{TaskId}
use Rattle.scx_isa_semantics.specs.declared.instructions.Insn.{Insn}
use Rattle.scx_isa_semantics.specs.declared.instructions.Insn.TheVariants as insn
use Rattle.scx_isa_semantics.specs.declared.values.Pointer.TheVariants as pointer
use Rattle.scx_isa_semantics.specs.declared.values.Value.{Value}
use Rattle.scx_isa_semantics.specs.declared.values.Value.TheVariants as value
use Rattle.scx_isa_semantics.specs.Arguments.{FitsCallback}
use Rattle.scx_isa_semantics.specs.Code.{Code, at}
use Rattle.scx_isa_semantics.specs.Effects.{Query, Call, Load, Store}
use Rattle.scx_isa_semantics.specs.Elements.{Maps}
use Rattle.scx_isa_semantics.specs.HostTables.{field_offset, helper_at, answers_task}
use Rattle.scx_isa_semantics.specs.Machine.{Machine, Arguments, start}
use Rattle.scx_isa_semantics.specs.Runs.{Leads, any_answer}
use Rattle.scx_isa_semantics.specs.Steps.{Asks, step}
use Rattle.scx_maps.specs.Contents.{HasShapes}
use Rattle.scx_vm.specs.Arguments.{argument_of}
use Rattle.scx_vm.specs.declared.arguments.Arg.{Arg}
use Rattle.scx_vm.specs.declared.context.Context.{Context}
use Rattle.scx_sched_world.specs.Helpers.{given_number}

-- ---- queries

-- it doesn't load that field of a task
abbrev pub LoadsNo : Field → Query → Type 0
LoadsNo f (Load t g) = (field_offset g == field_offset f) ≡ false
LoadsNo f q = Unit {0}

-- a helper that inserts a task is given a slice that isn't 0
abbrev pub IsGivenSlice : Helper → List Arg → Type 0
IsGivenSlice DsqInsert a = (given_number a 2 == 0) ≡ false
IsGivenSlice DsqInsertVtime a = (given_number a 2 == 0) ≡ false
IsGivenSlice f a = Unit {0}

-- so it is if a query calls one
abbrev pub GivesOne : Query → Type 0
GivesOne (Call f a) = IsGivenSlice f (map argument_of a)
GivesOne q = Unit {0}

-- ---- programs

-- No run of the program asks anything else: from arguments that fit its callback and maps of its
-- shapes, whatever is answered that fits.
abbrev pub AsksOnly : (Query → Type 0) → Context → Code → Type 0
AsksOnly P c code =
    (a : Arguments) (maps : Maps) (steps slot : ℕ) (m : Machine)
    → HasShapes c.defs maps → FitsCallback c.callback a
    → Leads any_answer c.callback code steps 0 (start a maps) tt slot m tt
    → (q : Query) (next : ℕ) (go : Value → Machine)
    → step c.callback code slot m ≡ Asks q next go
    → P q

-- ---- pointers to tasks

-- the value points to no other task
abbrev pub PointsTo : TaskId → Value → Type 0
PointsTo t (value.Pointer (pointer.Task u)) = u ≡ t
PointsTo t v = Unit {0}

-- nor does any argument
abbrev pub ArgumentsPointTo : TaskId → Arguments → Type 0
ArgumentsPointTo t a = PointsTo t a.first × PointsTo t a.second × PointsTo t a.third

-- a query loads no field of another task, and stores to none
abbrev pub IsOfTask : TaskId → Query → Type 0
IsOfTask t (Load u f) = u ≡ t
IsOfTask t (Store u f n) = u ≡ t
IsOfTask t q = Unit {0}

-- the helper, if it is one, answers a task
abbrev pub may_answer_task : Option Helper → Bool
may_answer_task None = false
may_answer_task (Some h) = answers_task h

-- it is a call of such a helper
abbrev pub asks_for_task : Option Insn → Bool
asks_for_task (Some (insn.Call k)) = may_answer_task (helper_at k)
asks_for_task i = false

-- A run of a program that asks for no task, and is given one at most, loads and stores the fields
-- of no other one, as long as what is answered fits.
abbrev pub RunsPointToTheirTask : Type 0
RunsPointToTheirTask =
    (t : TaskId) (c : Callback) (code : Code) (a : Arguments) (maps : Maps) (steps slot : ℕ)
    (m : Machine) (q : Query) (next : ℕ) (go : Value → Machine)
    → ((s : ℕ) → asks_for_task (at code s) ≡ false)
    → ArgumentsPointTo t a
    → Leads any_answer c code steps 0 (start a maps) tt slot m tt
    → step c code slot m ≡ Asks q next go
    → IsOfTask t q

-- ---- callbacks

-- true in each callback but running, stopping and tick, which are given a task that runs, if it is
-- said to be
abbrev pub is_early : Callback → Bool → Bool
is_early callback.Running b = false
is_early callback.Stopping b = false
is_early callback.Tick b = false
is_early c b = b
