use Rattle.scx_laws.proofs.Starting.{begins, only_begins, bad_shape, only_bad_shape}
use Rattle.scx_laws.proofs.allowing.rules_allow_starts.Goals as goal

pub returns-clause-allowed : goal.returns-clause-allowed
returns-clause-allowed c = begins

pub returns-clause-only : goal.returns-clause-only
returns-clause-only c = only_begins

pub returns-clause-refused : goal.returns-clause-refused
returns-clause-refused c = bad_shape

pub returns-clause-refused_only : goal.returns-clause-refused_only
returns-clause-refused_only c = only_bad_shape
