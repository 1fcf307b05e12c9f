use Rattle.std.proofs.lemmas.Result.{err_from_is_err_and}
use Rattle.scx_abs.proofs.states.AbsState.load.Goals as goal

pub returns-in_err-base-clause-area : goal.returns-in_err-base-clause-area
returns-in_err-base-clause-area c = rw (err_from_is_err_and c.from_residual.result c.from_residual.ensures.1).1 tt

pub returns-in_err-area-clause-area : goal.returns-in_err-area-clause-area
returns-in_err-area-clause-area c = rw (err_from_is_err_and c.from_residual-in_err-area.result c.from_residual-in_err-area.ensures.1).1 tt

pub returns-in_err-kind-clause-area : goal.returns-in_err-kind-clause-area
returns-in_err-kind-clause-area c = rw (err_from_is_err_and c.from_residual-in_err-kind.result c.from_residual-in_err-kind.ensures.1).1 tt
