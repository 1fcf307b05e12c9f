use Rattle.scx_weights.proofs.Counted.{usages_count_runs_lem}
use Rattle.scx_weights.proofs.quotas.usages_count_runs.Goals as goal

pub returns : goal.returns
returns c = usages_count_runs_lem
