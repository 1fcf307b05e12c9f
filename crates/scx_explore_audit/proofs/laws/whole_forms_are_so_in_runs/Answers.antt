use Rattle.scx_explore_findings.proofs.OwnCalls.{whole_forms_are_so_in_runs}
use Rattle.scx_explore_audit.proofs.laws.whole_forms_are_so_in_runs.Goals as goal

pub returns : goal.returns
returns c = whole_forms_are_so_in_runs
