use Rattle.std.proofs.Common.{◌≡◌, false}
use Rattle.scx_weights.specs.Counting.{any_below}
use Rattle.scx_weights.specs.Hierarchy.{is_in_mask}
use Rattle.scx_sched_machine.proofs.start.is_somewhere.Given as goal

abbrev pub invariant-loop-cpu : goal.invariant-loop-cpu
invariant-loop-cpu l = any_below l.cpu (is_in_mask l.fn.tree l.fn.task) ≡ false
