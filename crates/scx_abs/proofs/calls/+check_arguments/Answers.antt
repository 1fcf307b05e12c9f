use Rattle.std.proofs.Common.{sym, ◌∙◌}
use Rattle.std.proofs.lemmas.Result.{err_from_is_err_and}
use Rattle.scx_isa_semantics.specs.HostTables.{parameters}
use Rattle.scx_abs.proofs.Parameters.{argument_passed, argument_refused}
use Rattle.scx_abs.proofs.calls.+check_arguments.Goals as goal

pub returns : goal.returns
returns t c =
    c.check_arguments.ensures
    ∙ argument_passed c.args.defs.now c.args.state.now (parameters c.args.helper) c.args.argument c.in-Some.parameter c.kind_of-kind.result _ (first_of (cc, search))
    c.kind_of-kind.ensures (sym c.check_argument.ensures ∙ c.in_ok-check_argument.was)

pub returns-in_err-check_argument : goal.returns-in_err-check_argument
returns-in_err-check_argument t c =
    let error = err_from_is_err_and c.from_residual.result c.from_residual.ensures.1 in
    rw (error.1, error.2) (argument_refused c.args.defs.now c.args.state.now (parameters c.args.helper) c.args.argument c.in-Some.parameter c.kind_of-kind.result _ (first_of (cc, search))
    c.kind_of-kind.ensures (sym c.check_argument.ensures ∙ c.in_err-check_argument.was))
