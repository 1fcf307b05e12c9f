use Rattle.std.proofs.Common.{arith}
use Rattle.scx_isa.proofs.Counts.{at_within}
use Rattle.scx_isa.proofs.Control.{keeps_control}
use Rattle.scx_isa.proofs.flows.flow.Goals as goal

pub returns-clause-controlled : goal.returns-clause-controlled
returns-clause-controlled c =
    keeps_control c.args.program.now c.slots-slot-end.ensures.program
    (λ s i e. c.loop-slot.invariant s i (omega (arith, at_within c.args.program.now s i e, c.slots-slot-end.ensures.slots, c.loop-slot-test.false)) e)
