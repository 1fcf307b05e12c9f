use Rattle.scx_explore_findings.proofs.Near.{nobody_is_late}
use Rattle.scx_explore_audit.proofs.laws.nobody_is_late.Goals as goal

pub returns : goal.returns
returns c = nobody_is_late
