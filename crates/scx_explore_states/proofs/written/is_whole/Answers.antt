use Rattle.std.proofs.Common.{arith}
use Rattle.std.specs.Prelude.{Contains}
use Rattle.scx_explore_states.proofs.Placed.{below_more}
use Rattle.scx_explore_states.proofs.written.is_whole.Goals as goal

pub loop-task-preserved : goal.loop-task-preserved
loop-task-preserved c =
    below_more (λ t. Contains c.args.order.now t) c.loop-task.task c.loop-task.invariant (c.has.ensures c.if-not-has.false)

pub returns : goal.returns
returns c is t few = c.loop-task.invariant t (omega (arith, few, c.loop-task-test.false))
