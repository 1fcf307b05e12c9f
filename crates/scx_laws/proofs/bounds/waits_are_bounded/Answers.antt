use Rattle.scx_laws.proofs.Waited.{waits_at_most, stays_in_force}
use Rattle.scx_laws.proofs.bounds.waits_are_bounded.Goals as goal

pub returns-clause-wait : goal.returns-clause-wait
returns-clause-wait c = waits_at_most

pub returns-clause-force : goal.returns-clause-force
returns-clause-force c = stays_in_force
