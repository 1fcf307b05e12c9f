use Rattle.scx_laws.proofs.Adding.{time_adds_up, each_has_its_ticks}
use Rattle.scx_laws.proofs.runs.time_adds_up.Goals as goal

pub returns-clause-all : goal.returns-clause-all
returns-clause-all c = time_adds_up

pub returns-clause-each : goal.returns-clause-each
returns-clause-each c = each_has_its_ticks
