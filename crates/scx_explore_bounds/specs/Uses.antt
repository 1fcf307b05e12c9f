-- Uses: the helpers that programs call, and the fields of tasks that they load. Helpers that answer
-- the current task of a CPU, the front of a queue, the processor of a task or one that is idle, and
-- masks of processors, tell nothing but what every state keeps: who runs where, who waits in which
-- queue and at which place, on which processor a task ran last, and which processors are claimed. A
-- load from a task that such a helper answers counts as any load; so a program that loads slices
-- and calls one may load the slice of any task.
use Rattle.std.specs.Prelude.{◌≡◌, ℕ, zero, suc, ◌==◌, Bool, true, false, ◌&&◌, ◌||◌, length, Option, Some, None}
use Rattle.scx_isa_semantics.specs.declared.callbacks.Callback.{Callback}
use Rattle.scx_isa_semantics.specs.declared.host_tables.Field.{Field}
use Rattle.scx_isa_semantics.specs.declared.host_tables.Field.TheVariants as field
use Rattle.scx_isa_semantics.specs.declared.host_tables.Helper.{Helper}
use Rattle.scx_isa_semantics.specs.declared.host_tables.Helper.TheVariants as helper
use Rattle.scx_isa_semantics.specs.declared.instructions.Insn.{Insn}
use Rattle.scx_isa_semantics.specs.declared.instructions.Insn.TheVariants.{Call, Load}
use Rattle.scx_isa_semantics.specs.declared.rules.Rules.{Rules}
use Rattle.scx_isa_semantics.specs.declared.rules.Rules.TheVariants.{Plain, Linux}
use Rattle.scx_isa_semantics.specs.Arithmetic.{at_distance}
use Rattle.scx_isa_semantics.specs.Code.{Code, at}
use Rattle.scx_isa_semantics.specs.HostTables.{field_at, field_offset, helper_at, helper_number}
use Rattle.scx_isa_semantics.specs.Memory.{access_size, size_bytes}
use Rattle.scx_isa.specs.Spelling.{IsProgram}
use Rattle.scx_abs.specs.declared.kinds.Kind.{Kind}
use Rattle.scx_abs.specs.declared.kinds.Kind.TheVariants.{Num, Task}
use Rattle.scx_abs.specs.declared.states.AbsState.{AbsState}
use Rattle.scx_abs.specs.States.{kind_at}
use Rattle.scx_verify_explain.specs.declared.listing.Listing.{Listing}
use Rattle.scx_verify_explain.specs.Listings.{IsListing, known_at}
use Rattle.scx_vm.specs.declared.context.Context.{Context}
use Rattle.scx_isa_semantics.specs.declared.registers.Register.{Register}
use Rattle.scx_isa_semantics.specs.Registers.{number}
use Rattle.scx_explore_states.specs.Asking.{is_early}
use Rattle.scx_explore_bounds.specs.declared.uses.Use.{Use}
use Rattle.scx_explore_bounds.specs.declared.uses.Use.TheVariants as such
use Rattle.scx_explore_bounds.specs.declared.uses.Uses.{Uses}

-- one of the numbers below that passes the test
abbrev pub any_below : ℕ → (ℕ → Bool) → Bool
any_below zero p = false
any_below (suc n) p = any_below n p || p n

-- there is a helper, and it is that one
abbrev pub is_helper : Helper → Option Helper → Bool
is_helper h None = false
is_helper h (Some g) = helper_number g == helper_number h

-- there is a field, and it is that one
abbrev pub is_field : Field → Option Field → Bool
is_field f None = false
is_field f (Some g) = field_offset g == field_offset f

-- a call of that helper
abbrev pub is_call : Helper → Option Insn → Bool
is_call h None = false
is_call h (Some (Call k)) = is_helper h (helper_at k)
is_call h (Some i) = false

-- a pointer to a task
abbrev pub is_task : Kind → Bool
is_task Task = true
is_task k = false

-- in that state the register holds a pointer to a task; where control doesn't come it holds nothing
abbrev pub is_of_task : Register → Option AbsState → Bool
is_of_task b None = false
is_of_task b (Some a) = is_task (kind_at a (number b))

-- a load of that field of a task
abbrev pub is_load : Field → Option Insn → Option AbsState → Bool
is_load f None s = false
is_load f (Some (Load a d b o)) s =
    is_of_task b s && is_field f (field_at (size_bytes (access_size a)) (at_distance 0 o))
is_load f (Some i) s = false

-- a load of the bytes at which that field of a task lies, from any memory
abbrev pub is_any_load : Field → Option Insn → Bool
is_any_load f (Some (Load a d b o)) =
    is_field f (field_at (size_bytes (access_size a)) (at_distance 0 o))
is_any_load f o = false

-- a call that inserts a task
abbrev pub is_insert : Option Insn → Bool
is_insert i = is_call helper.DsqInsert i || is_call helper.DsqInsertVtime i

-- a register of which that is known may be 0
abbrev pub may_be_0 : Kind → Bool
may_be_0 (Num r) = r.low == 0
may_be_0 k = true

-- the slice that is given in that state, in r3, may be 0; where control doesn't come none is given
abbrev pub gives_none : Option AbsState → Bool
gives_none None = false
gives_none (Some a) = may_be_0 (kind_at a 3)

-- an instruction is such, where that is known before it
abbrev pub is_use : Use → Option Insn → Option AbsState → Bool
is_use (such.Call h) i s = is_call h i
is_use (such.Load f) i s = is_load f i s
is_use such.EmptySlice i s = is_insert i && gives_none s
is_use (such.AnyLoad f) i s = is_any_load f i

-- the program of a listing has an instruction that is such
abbrev pub has : Listing → Use → Bool
has l u = any_below (length l.code.items) (λ s. is_use u (at l.code.items s) (known_at l s))

-- it asks for a task other than by its number: the current task of a CPU, or the front of a queue
abbrev pub asks_for_other_task : Listing → Bool
asks_for_other_task l = has l (such.Call helper.CpuCurr) || has l (such.Call helper.DsqPeek)

-- it has a load of the bytes at which a slice or a run time lies, from any memory
abbrev pub has_count_load : Listing → Bool
has_count_load l = has l (such.AnyLoad field.Slice) || has l (such.AnyLoad field.RunNs)

-- one of two, or both
abbrev pub either : Bool → Bool → Bool
either a b = a || b

-- there is a load of a weight that is the task's own, as Linux rules tell it; plain rules tell that
-- of a task by its groups, which is the same for all tasks of a group
abbrev pub is_own : Rules → Bool → Bool
is_own Plain b = false
is_own Linux b = b

-- what the program of a listing does as a callback, by these rules, beside what others do
abbrev pub with_listing : Uses → Callback → Rules → Listing → Uses
with_listing u c r l = record {
  clock = either u.clock (has l (such.Call helper.KtimeGetNs));
  random = either u.random (has l (such.Call helper.PrandomU32));
  task_by_pid = either u.task_by_pid (has l (such.Call helper.TaskByPid));
  other_task = either u.other_task (asks_for_other_task l);
  vtime_inserts = either u.vtime_inserts (has l (such.Call helper.DsqInsertVtime));
  pid = either u.pid (has l (such.Load field.Pid));
  weight = either u.weight (has l (such.Load field.Weight));
  own_weight = either u.own_weight (is_own r (has l (such.Load field.Weight)));
  vtime = either u.vtime (has l (such.Load field.DsqVtime));
  run_ns = either u.run_ns (has l (such.Load field.RunNs));
  slice = either u.slice (has l (such.Load field.Slice));
  early_slice = either u.early_slice (is_early c (has l (such.Load field.Slice)));
  empty_slice = either u.empty_slice (has l such.EmptySlice);
  has_count_load = either u.has_count_load (has_count_load l);
}

-- the second are the first with what a program does in that context, by what the verifier knows
pub record Does (u : Uses) (c : Context) (code : Code) (v : Uses) : Type 0 where
  pub program : IsProgram code
  pub listing : Listing
  pub known : IsListing c code listing
  pub uses : v ≡ with_listing u c.callback c.rules listing
