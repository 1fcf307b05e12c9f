use Rattle.scx_abs_ranges.proofs.Order.{order_is_inclusion, join_is_least_cover}
use Rattle.scx_abs_ranges.proofs.laws.ranges_are_sets.Goals as goal

pub returns-clause-order : goal.returns-clause-order
returns-clause-order c = order_is_inclusion

pub returns-clause-join : goal.returns-clause-join
returns-clause-join c = join_is_least_cover
