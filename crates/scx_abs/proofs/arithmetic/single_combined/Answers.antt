use Rattle.std.proofs.Common.{sym, ◌∙◌}
use Rattle.scx_abs.proofs.SingleNumbers.{single_combined}
use Rattle.scx_abs.proofs.arithmetic.single_combined.Goals as goal

pub returns-in-Some-single_operand-clause-one : goal.returns-in-Some-single_operand-clause-one
returns-in-Some-single_operand-clause-one c shapes =
    rw c.compute.ensures
    (single_combined shapes c.args.state.now c.args.width c.args.operation c.args.destination c.args.operand c.in-Some.a c.in-Some-single_operand.b (sym c.kind.ensures ∙ c.in-Some.ensures.one) c.in-Some-single_operand.ensures.one)
