use Rattle.std.proofs.Common.{◌≡◌, ◌||◌, false}
use Rattle.scx_weights.specs.Counting.{any_below}
use Rattle.scx_weights.specs.Hierarchy.{is_active_task}
use Rattle.scx_sched_machine.specs.Start.{is_nowhere}
use Rattle.scx_sched_machine.proofs.start.has_bad_task.Given as goal

abbrev pub invariant-loop-task : goal.invariant-loop-task
invariant-loop-task l = any_below l.task (λ t. is_active_task l.fn.tree t || is_nowhere l.fn.tree l.fn.cpus t) ≡ false
