use Rattle.std.proofs.Common.{rules}
use Rattle.scx_abs.specs.declared.kinds.Kind.TheVariants.{Num}
use Rattle.scx_abs.proofs.Stores.{stored_as}
use Rattle.scx_abs.proofs.states.AbsState.store_operand.Goals as goal

pub returns-in-Immediate-clause-done : goal.returns-in-Immediate-clause-done
returns-in-Immediate-clause-done c = stored_as c.args.defs.now c.args.self.now c.args.size c.args.base c.args.offset _ c.args.operand (Num c.single.result) _ c.store_kind.ensures.done (search rules) (search rules)

pub returns-in_ok-kind-in-Register-clause-done : goal.returns-in_ok-kind-in-Register-clause-done
returns-in_ok-kind-in-Register-clause-done c =
    stored_as c.args.defs.now c.args.self.now c.args.size c.args.base c.args.offset _ c.args.operand _ _ c.store_kind-in-Register.ensures.done (search rules) (search rules)
