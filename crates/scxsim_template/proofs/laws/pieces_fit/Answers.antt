use Rattle.scxsim_template.proofs.Few.{are_few, fit}
use Rattle.scxsim_template.proofs.laws.pieces_fit.Goals as goal

pub returns-clause-few : goal.returns-clause-few
returns-clause-few c = are_few

pub returns-clause-fit : goal.returns-clause-fit
returns-clause-fit c = fit
