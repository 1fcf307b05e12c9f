use Rattle.scx_weights.proofs.Bounded.{runs_are_bounded_lem}
use Rattle.scx_weights.proofs.quotas.runs_are_bounded.Goals as goal

pub returns : goal.returns
returns c = runs_are_bounded_lem
