use Rattle.std.proofs.Common.{◌<◌, length, arith}
use Rattle.scx_sched_world.proofs.Entering.{entered}
use Rattle.scx_sched_world.proofs.world.World.enter.Goals as goal

pub returns-then-task-len-clause-world : goal.returns-then-task-len-clause-world
returns-then-task-len-clause-world c =
    let known : c.args.task < length c.args.self.now.tasks = rw (← c.self.view_is) (omega arith) in
    entered c.args.self.now c.set_given.new.self c.queue_by.new.self c.preempt_by.new.self c.args.task c.args.insert known c.set_given.ensures c.queue_by.ensures.world c.preempt_by.ensures.world
