use Rattle.scx_dsq.proofs.Fronts.{front_once, front_is}
use Rattle.scx_dsq.proofs.laws.fronts_are_unique.Goals as goal

pub returns-clause-one : goal.returns-clause-one
returns-clause-one c = front_once

pub returns-clause-first : goal.returns-clause-first
returns-clause-first c = front_is
