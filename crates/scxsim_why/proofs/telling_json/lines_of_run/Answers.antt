use Rattle.std.proofs.lemmas.Result.{err_from_is_err_and}
use Rattle.scxsim_why.proofs.telling_json.lines_of_run.Goals as goal

pub returns-clause-idle : goal.returns-clause-idle
returns-clause-idle g c = (_, c.in_ok-found.ensures.idle, c.in_ok-lines_of.ensures)

-- memory ran out, of which the texts say nothing
pub returns-in_err-lines_of-clause-refused : goal.returns-in_err-lines_of-clause-refused
returns-in_err-lines_of-clause-refused g c =
    let error = err_from_is_err_and c.from_residual-in_err-lines_of.result c.from_residual-in_err-lines_of.ensures.1 in
    rw (error.1, error.2) tt
