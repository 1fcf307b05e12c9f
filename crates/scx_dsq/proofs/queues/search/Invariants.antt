use Rattle.std.proofs.Common.{◌-◌}
use Rattle.scx_dsq.specs.Kept.{ids_of}
use Rattle.scx_dsq.proofs.Ordering.{IsBetween}
use Rattle.scx_dsq.proofs.queues.search.Given as goal

abbrev pub invariant-loop-low : goal.invariant-loop-low
invariant-loop-low l = IsBetween (ids_of l.live) l.order l.id l.low l.high

abbrev pub decreases-loop-low : goal.decreases-loop-low
decreases-loop-low l = l.high - l.low
