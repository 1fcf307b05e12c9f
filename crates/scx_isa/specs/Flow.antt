-- The conditions on a program's flow, which are those of the kernel's verifier without loops: each
-- jump goes forward, stays in the program and leads to where an instruction begins, and control
-- doesn't fall off the end. They are looked for in that order, over all instructions.
use Rattle.std.specs.Prelude.{ℕ, ◌+◌, ◌≡◌, ◌<◌, ℤ, pos, negsuc, nat_eq, nat_le, is_none, length, Option, Some, None, IsSome, if◌then◌else◌}
use Rattle.scx_isa_semantics.specs.declared.instructions.Insn.{Insn}
use Rattle.scx_isa_semantics.specs.declared.instructions.Insn.TheVariants.{JumpIf, Goto, GotoLong, Exit}
use Rattle.scx_isa.specs.declared.faults.FlowFault.{FlowFault}
use Rattle.scx_isa.specs.declared.faults.FlowFault.TheVariants.{BackJump, OutOfProgram, IntoWide, FallsOff}
use Rattle.scx_isa_semantics.specs.Code.{Code, at, size, instruction_count}
use Rattle.scx_isa_semantics.specs.declared.callbacks.Callback.{Callback}
use Rattle.scx_isa_semantics.specs.Machine.{Machine}
use Rattle.scx_isa_semantics.specs.Runs.{Leads, any_answer}

-- the fault of a jump whose target is that slot
abbrev pub target_fault : Code → ℕ → Option FlowFault
target_fault code t =
    if nat_le (length code) t then Some OutOfProgram
    else (if is_none (at code t) then Some IntoWide else None)

-- the fault of a jump with that offset, counted from the slot after it
abbrev pub jump_fault : Code → ℕ → ℤ → Option FlowFault
jump_fault code s (pos n) = target_fault code (s + n)
jump_fault code s (negsuc n) = Some BackJump

-- the fault of an instruction that goes on to that slot
abbrev pub end_fault : Code → ℕ → Option FlowFault
end_fault code s = if nat_eq s (length code) then Some FallsOff else None

-- the first of two faults
abbrev pub first_fault : Option FlowFault → Option FlowFault → Option FlowFault
first_fault None g = g
first_fault (Some f) g = Some f

-- the first fault of an instruction that has that slot after it
abbrev pub insn_fault : Code → ℕ → Insn → Option FlowFault
insn_fault code s (JumpIf w c r x offset) =
    first_fault (jump_fault code s offset) (end_fault code s)
insn_fault code s (Goto offset) = jump_fault code s offset
insn_fault code s (GotoLong offset) = jump_fault code s offset
insn_fault code s Exit = None
insn_fault code s i = end_fault code s

-- the first fault of the instruction at a slot
abbrev pub flow_fault : Code → ℕ → Insn → Option FlowFault
flow_fault code s i = insn_fault code (s + size i) i

-- the first fault of the instruction that begins at a slot, if one does
abbrev pub occupant_fault : Code → ℕ → Option Insn → Option FlowFault
occupant_fault code s None = None
occupant_fault code s (Some i) = flow_fault code s i

-- no instruction has a fault
abbrev pub Flows : Code → Type 0
Flows code = (s : ℕ) (i : Insn) → at code s ≡ Some i → flow_fault code s i ≡ None

-- the instruction at the slot has the fault, and none before it has one
pub record IsFirstFlowFault (code : Code) (fault : FlowFault) (slot : ℕ) : Type 0 where
  pub insn : Insn
  pub there : at code slot ≡ Some insn
  pub fails : flow_fault code slot insn ≡ Some fault
  pub earlier : (s : ℕ) (i : Insn) → s < slot → at code s ≡ Some i → flow_fault code s i ≡ None

-- The purpose of the conditions: wherever a run of the program is, whatever its first state and
-- the answers that it gets, an instruction begins there, and it has taken fewer steps than the
-- program has instructions.
abbrev pub StaysInControl : Code → Type 0
StaysInControl code =
    (c : Callback) (m : Machine) (steps slot : ℕ) (k : Machine)
    → Leads any_answer c code steps 0 m tt slot k tt
    → IsSome (at code slot) × (steps < instruction_count code)
