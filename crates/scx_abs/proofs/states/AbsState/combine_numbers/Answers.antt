use Rattle.std.proofs.Common.{sym, ap, ◌∙◌}
use Rattle.scx_isa_semantics.specs.Registers.{number}
use Rattle.scx_abs.specs.Checks.{gets}
use Rattle.scx_abs.specs.Pieces.{combined_numbers}
use Rattle.scx_abs.proofs.states.AbsState.combine_numbers.Goals as goal

pub returns-in-Err-clause-done : goal.returns-in-Err-clause-done
returns-in-Err-clause-done c =
    ap (gets c.args.self.now (number c.args.destination))
    (ap (combined_numbers c.args.width c.args.operation c.args.numbers) (sym c.in-Err.is) ∙ c.operand_numbers.ensures c.args.operation c.args.numbers)

pub returns-in-Ok-clause-done : goal.returns-in-Ok-clause-done
returns-in-Ok-clause-done c =
    rw (c.set.ensures, c.computed-left.ensures)
    (ap (gets c.args.self.now (number c.args.destination))
    (ap (combined_numbers c.args.width c.args.operation c.args.numbers) (sym c.in-Ok.is) ∙ c.operand_numbers.ensures c.args.operation c.args.numbers))
