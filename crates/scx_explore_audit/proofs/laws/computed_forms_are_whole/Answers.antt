use Rattle.scx_explore_audit.proofs.Computed.{computed_forms_are_whole}
use Rattle.scx_explore_audit.proofs.InRuns.{computed_forms_are_whole_in_runs, programs_load_no_count}
use Rattle.scx_explore_audit.proofs.laws.computed_forms_are_whole.Goals as goal

pub returns-clause-anyhow : goal.returns-clause-anyhow
returns-clause-anyhow c = computed_forms_are_whole

pub returns-clause-runs : goal.returns-clause-runs
returns-clause-runs c = computed_forms_are_whole_in_runs

pub returns-clause-counts : goal.returns-clause-counts
returns-clause-counts c = programs_load_no_count
