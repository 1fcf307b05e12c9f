use Rattle.scx_explore_findings.proofs.Machines.{lists_dont_depend}
use Rattle.scx_explore_audit.proofs.laws.lists_dont_depend.Goals as goal

pub returns : goal.returns
returns c = lists_dont_depend
