use Rattle.scx_laws.proofs.Helping.{helper_allowed, only_helper}
use Rattle.scx_laws.proofs.allowing.rules_allow_helpers.Goals as goal

pub returns-clause-allowed : goal.returns-clause-allowed
returns-clause-allowed c = helper_allowed

pub returns-clause-only : goal.returns-clause-only
returns-clause-only c = only_helper
