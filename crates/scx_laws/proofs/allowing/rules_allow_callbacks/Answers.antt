use Rattle.scx_laws.proofs.Calling.{calls_back, only_calls}
use Rattle.scx_laws.proofs.allowing.rules_allow_callbacks.Goals as goal

pub returns-clause-allowed : goal.returns-clause-allowed
returns-clause-allowed c = calls_back

pub returns-clause-only : goal.returns-clause-only
returns-clause-only c = only_calls
