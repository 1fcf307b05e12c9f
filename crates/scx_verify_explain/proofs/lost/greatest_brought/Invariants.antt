use Rattle.std.proofs.Common.{◌≤◌}
use Rattle.scx_verify_explain.proofs.lost.greatest_brought.Given as goal

abbrev pub invariant-loop-from : goal.invariant-loop-from
invariant-loop-from l = l.from ≤ l.point.slot

abbrev pub decreases-loop-from : goal.decreases-loop-from
decreases-loop-from l = l.from
