use Rattle.scx_explore_bounds.proofs.Done.{uses_tell_runs}
use Rattle.scx_explore_bounds.proofs.laws.uses_tell_runs.Goals as goal

pub returns : goal.returns
returns c = uses_tell_runs
