use Rattle.scxsim_account.proofs.LastHeard.{heard}
use Rattle.scxsim_account.proofs.last_call.hear.Goals as goal

pub returns-clause-end : goal.returns-clause-end
returns-clause-end c = heard _ _ _ c.step_heard.ensures.calls
