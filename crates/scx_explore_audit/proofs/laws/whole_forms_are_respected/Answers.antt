use Rattle.scx_explore_audit.proofs.Respected.{forms_whole_in_runs_are_respected, whole_forms_are_respected}
use Rattle.scx_explore_audit.proofs.Rowed.{forms_whole_in_runs_are_followed}
use Rattle.scx_explore_audit.proofs.laws.whole_forms_are_respected.Goals as goal

pub returns-clause-anyhow : goal.returns-clause-anyhow
returns-clause-anyhow c = whole_forms_are_respected

pub returns-clause-runs : goal.returns-clause-runs
returns-clause-runs c = forms_whole_in_runs_are_respected

pub returns-clause-rows : goal.returns-clause-rows
returns-clause-rows c = forms_whole_in_runs_are_followed
