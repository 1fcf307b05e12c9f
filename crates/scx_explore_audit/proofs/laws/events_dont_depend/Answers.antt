use Rattle.scx_explore_findings.proofs.Machines.{events_dont_depend}
use Rattle.scx_explore_audit.proofs.laws.events_dont_depend.Goals as goal

pub returns : goal.returns
returns c = events_dont_depend
