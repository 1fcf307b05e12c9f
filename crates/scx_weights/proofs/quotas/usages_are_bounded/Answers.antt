use Rattle.scx_weights.proofs.Bounded.{usages_are_bounded_lem}
use Rattle.scx_weights.proofs.quotas.usages_are_bounded.Goals as goal

pub returns : goal.returns
returns c = usages_are_bounded_lem
