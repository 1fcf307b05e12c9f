use Rattle.std.proofs.Common.{◌≡◌, ◌<◌, ℕ, Some, None}
use Rattle.scx_isa_semantics.specs.Code.{at}
use Rattle.scx_isa_semantics.specs.declared.instructions.Insn.{Insn}
use Rattle.scx_isa.specs.Flow.{flow_fault}
use Rattle.scx_isa.proofs.flows.flow.Given as goal

abbrev pub invariant-loop-slot : goal.invariant-loop-slot
invariant-loop-slot l = (s : ℕ) (i : Insn) → s < l.slot → at l.program s ≡ Some i → flow_fault l.program s i ≡ None
