use Rattle.scx_explore_findings.proofs.Shown.{same_machines_show_the_same}
use Rattle.scx_explore_audit.proofs.laws.same_machines_show_the_same.Goals as goal

pub returns : goal.returns
returns c = same_machines_show_the_same
