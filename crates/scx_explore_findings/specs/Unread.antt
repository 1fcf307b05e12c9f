-- Programs that read nothing of what is hidden: they ask for no such field. So it is if they have
-- no instruction that loads one, whatever its base register holds.
use Rattle.std.specs.Prelude.{◌≡◌, ℕ, Bool, false, Option, Some, None}
use Rattle.scx_isa_semantics.specs.declared.callbacks.Callback.{Callback}
use Rattle.scx_isa_semantics.specs.declared.host_tables.Field.{Field}
use Rattle.scx_isa_semantics.specs.declared.host_tables.Field.TheVariants.{DsqVtime, RunNs}
use Rattle.scx_isa_semantics.specs.declared.instructions.Insn.{Insn}
use Rattle.scx_isa_semantics.specs.declared.instructions.Insn.TheVariants as insn
use Rattle.scx_isa_semantics.specs.Arithmetic.{at_distance}
use Rattle.scx_isa_semantics.specs.Code.{Code, at}
use Rattle.scx_isa_semantics.specs.Effects.{Query, Load}
use Rattle.scx_isa_semantics.specs.HostTables.{field_at}
use Rattle.scx_isa_semantics.specs.Memory.{access_size, size_bytes}
use Rattle.scx_vm.specs.Programs.{VerifiedProgram}
use Rattle.scx_sched_policy.specs.Policy.{PolicyState, program_of}
use Rattle.scx_explore_findings.specs.Asked.{AskAnyhow}
use Rattle.scx_explore_findings.specs.Hidden.{Hidden}

-- whether that field of a task is hidden
abbrev pub is_hidden : Hidden → Field → Bool
is_hidden h RunNs = h.run_ns
is_hidden h DsqVtime = h.vtime
is_hidden h f = false

-- a query asks for nothing that is hidden
abbrev pub ReadsNone : Hidden → Query → Type 0
ReadsNone h (Load t f) = is_hidden h f ≡ false
ReadsNone h q = Unit {0}

-- ---- instructions

-- the field is one of those, if there is one
abbrev pub is_some_field : (Field → Bool) → Option Field → Bool
is_some_field are None = false
is_some_field are (Some f) = are f

-- it is a load of the bytes at an offset that one of those fields has in the record of a task
abbrev pub loads_some : (Field → Bool) → Option Insn → Bool
loads_some are (Some (insn.Load a d b offset)) =
    is_some_field are (field_at (size_bytes (access_size a)) (at_distance 0 offset))
loads_some are o = false

-- no instruction of the program is such a load
abbrev pub LoadsNone : (Field → Bool) → Code → Type 0
LoadsNone are code = (slot : ℕ) → loads_some are (at code slot) ≡ false

-- whether the field is hidden where there is one; false where there is none
abbrev pub is_hidden_field : Hidden → Option Field → Bool
is_hidden_field h o = is_some_field (is_hidden h) o

-- whether it is a load of a hidden field: of 8 bytes at 32 for how long a task has run, of 8 bytes
-- at 16 for its virtual time
abbrev pub may_read : Hidden → Option Insn → Bool
may_read h o = loads_some (is_hidden h) o

-- no instruction of the program loads a hidden field
abbrev pub IsUnreadBy : Hidden → Code → Type 0
IsUnreadBy h code = LoadsNone (is_hidden h) code

-- the same of a program, if there is one
abbrev pub IsUnread : Hidden → Option VerifiedProgram → Type 0
IsUnread h None = Unit {0}
IsUnread h (Some p) = IsUnreadBy h p.code

-- programs with no such instruction ask for nothing that is hidden, whatever they are given and
-- answered
abbrev pub SuchProgramsReadNone : Type 0
SuchProgramsReadNone =
    (h : Hidden) (p : PolicyState)
    → ((b : Callback) → IsUnread h (program_of p b))
    → AskAnyhow (ReadsNone h) p
