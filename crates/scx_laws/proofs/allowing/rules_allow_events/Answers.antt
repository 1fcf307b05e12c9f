use Rattle.scx_laws.proofs.Happening.{happens, only_happens}
use Rattle.scx_laws.proofs.allowing.rules_allow_events.Goals as goal

pub returns-clause-allowed : goal.returns-clause-allowed
returns-clause-allowed c = happens

pub returns-clause-only : goal.returns-clause-only
returns-clause-only c = only_happens
