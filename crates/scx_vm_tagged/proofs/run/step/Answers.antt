use Rattle.std.proofs.Common.{sym, arith}
use Rattle.scx_isa.proofs.Counts.{fewer_behind, size-positive}
use Rattle.scx_vm_tagged.specs.State.{seen}
use Rattle.scx_vm_tagged.proofs.Forward.{distance-forward}
use Rattle.scx_vm_tagged.proofs.RunSteps.{step_next}
use Rattle.scx_vm_tagged.proofs.run.step.Goals as goal

pub target-requires-clause-forward : goal.target-requires-clause-forward
target-requires-clause-forward g c = distance-forward c.args.program.now c.args.slot c.in-Some.insn c.requires.flows (sym c.in-Some.ensures)

pub returns-in-Next-clause-step : goal.returns-in-Next-clause-step
returns-in-Next-clause-step g c =
    rw c.size.ensures (step_next _ c.args.callback c.args.program.now c.args.slot c.in-Some.insn (seen c.args.core.now c.args.maps.now) c.args.env.now (seen c.execute.new.core c.execute.new.maps) c.execute.new.env (sym c.in-Some.ensures) c.in-Next.ensures.effect)

pub returns-in-Next-clause-nearer : goal.returns-in-Next-clause-nearer
returns-in-Next-clause-nearer g c = fewer_behind c.args.program.now c.args.slot _ c.in-Some.insn (sym c.in-Some.ensures) (omega (arith, size-positive c.in-Some.insn))

pub returns-in-Jumped-clause-nearer : goal.returns-in-Jumped-clause-nearer
returns-in-Jumped-clause-nearer g c = fewer_behind c.args.program.now c.args.slot _ c.in-Some.insn (sym c.in-Some.ensures) c.target.ensures.forward
