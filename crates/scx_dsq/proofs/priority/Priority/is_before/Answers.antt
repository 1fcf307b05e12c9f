use Rattle.std.proofs.Common.{arith}
use Rattle.scx_dsq.proofs.Orders.{wholes_compare}
use Rattle.scx_dsq.proofs.priority.Priority.is_before.Goals as goal

pub returns-clause-answer : goal.returns-clause-answer
returns-clause-answer g c =
    rw (c.whole.ensures, c.whole-2.ensures) (wholes_compare c.args.self.key c.args.self.stamp c.args.other.key c.args.other.stamp (omega arith) (omega arith))
