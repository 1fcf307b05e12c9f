use Rattle.std.proofs.Common.{◌-◌}
use Rattle.scx_dsq.specs.Queues.{len_of, entry_of}
use Rattle.scx_dsq.proofs.Among.{ahead_of, IsOnTheWay}
use Rattle.scx_dsq.proofs.queues.Queues.first_from.Given as goal

abbrev pub invariant-loop-task : goal.invariant-loop-task
invariant-loop-task g l = IsOnTheWay (g.S.TaskSet.has l.tasks) l.self.state l.id l.task l.fn.steps l.steps

abbrev pub decreases-loop-task : goal.decreases-loop-task
decreases-loop-task g l = len_of l.self.state l.id - ahead_of l.self.state.entries l.id (entry_of l.self.state l.task)
