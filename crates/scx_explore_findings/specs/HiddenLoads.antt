-- The instructions that may read hidden times: loads of whole fields of a task.
use Rattle.std.specs.Prelude.{◌≡◌, ◌⊎◌, ℕ, pos, true, Some}
use Rattle.scx_isa_semantics.specs.declared.host_tables.Field.TheVariants.{DsqVtime, RunNs}
use Rattle.scx_isa_semantics.specs.declared.instructions.Insn.{Insn}
use Rattle.scx_isa_semantics.specs.declared.instructions.Insn.TheVariants.{Load}
use Rattle.scx_isa_semantics.specs.declared.operations.Access.TheVariants.{DoubleWord}
use Rattle.scx_isa_semantics.specs.declared.registers.Register.{Register}
use Rattle.scx_isa_semantics.specs.HostTables.{field_offset}
use Rattle.scx_explore_findings.specs.Hidden.{Hidden}
use Rattle.scx_explore_findings.specs.Unread.{may_read}

-- a load of 8 bytes at that offset, from any register to any
abbrev pub IsLoadAt : ℕ → Insn → Type 0
IsLoadAt n i = (d : Register) × (b : Register) × (i ≡ Load DoubleWord d b (pos n))

-- one at the offset of run times, if these are hidden, or at that of virtual times, if they are
abbrev pub IsHiddenLoad : Hidden → Insn → Type 0
IsHiddenLoad h i =
    ((h.run_ns ≡ true) × IsLoadAt (field_offset RunNs) i)
    ⊎ ((h.vtime ≡ true) × IsLoadAt (field_offset DsqVtime) i)

-- no other instruction may read what is hidden
abbrev pub LoadsAreTold : Type 0
LoadsAreTold = (h : Hidden) (i : Insn) → may_read h (Some i) ≡ true → IsHiddenLoad h i
