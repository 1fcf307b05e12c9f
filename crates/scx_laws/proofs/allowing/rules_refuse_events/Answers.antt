use Rattle.scx_laws.proofs.Refusing.{refuses, only_refuses}
use Rattle.scx_laws.proofs.allowing.rules_refuse_events.Goals as goal

pub returns-clause-allowed : goal.returns-clause-allowed
returns-clause-allowed c = refuses

pub returns-clause-only : goal.returns-clause-only
returns-clause-only c = only_refuses
