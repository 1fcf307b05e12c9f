use Rattle.std.proofs.Common.{sym, ◌∙◌, ◌||◌, arith, length}
use Rattle.scx_weights.specs.Hierarchy.{is_active_task}
use Rattle.scx_sched_machine.specs.Start.{is_nowhere}
use Rattle.scx_sched_machine.proofs.Active.{any_below_at}
use Rattle.scx_sched_machine.proofs.start.has_bad_task.Goals as goal

pub returns-then-is_bad_task : goal.returns-then-is_bad_task
returns-then-is_bad_task c =
    let tree = c.args.tree.now in
    sym (any_below_at (length tree.homes) c.loop-task.task (λ t. is_active_task tree t || is_nowhere tree c.args.cpus t) (omega (arith, c.loop-task-test.true, c.tasks-task-end.ensures.tasks)) (sym c.is_bad_task.ensures ∙ c.if-is_bad_task.true))
