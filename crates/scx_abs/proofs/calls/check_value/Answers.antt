use Rattle.std.proofs.Common.{sym, ap, ◌∙◌}
use Rattle.scx_abs.specs.Calls.{value_check}
use Rattle.scx_abs.proofs.calls.check_value.Goals as goal

pub returns-in-Stack : goal.returns-in-Stack
returns-in-Stack c =
    c.check_stack_value.ensures c.args.defs.now
    ∙ ap (value_check c.args.defs.now c.args.state.now c.args.bytes) (sym c.in-Stack.is)
