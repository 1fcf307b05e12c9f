use Rattle.std.proofs.Common.{rules, ◌<◌, length, arith}
use Rattle.scx_sched_machine.proofs.Enabling.{enabled_fails, answered_fails, heard_fails}
use Rattle.scx_sched_machine.proofs.machine.Machine.enable_all.Goals as goal

pub returns-in-Err-clause-failed : goal.returns-in-Err-clause-failed
returns-in-Err-clause-failed g c =
    let s = c.args.self.now in
    let l : c.loop-task.task < length c.args.self.now.world.tasks = rw (← c.self.view_is) (omega (arith, c.loop-task-test.true, c.tasks-task-end.ensures.tasks)) in
    let failed = enabled_fails (length s.world.tasks) c.loop-task.task s c.loop-task.self _ l c.loop-task.invariant.state c.in-Err.ensures.failed in
    search rules

pub returns-in-Err-clause-answered : goal.returns-in-Err-clause-answered
returns-in-Err-clause-answered g c =
    let s = c.args.self.now in
    let l : c.loop-task.task < length c.args.self.now.world.tasks = rw (← c.self.view_is) (omega (arith, c.loop-task-test.true, c.tasks-task-end.ensures.tasks)) in
    answered_fails (length s.world.tasks) c.loop-task.task s c.loop-task.self _ l c.loop-task.invariant.state c.in-Err.ensures.failed c.loop-task.invariant.answered c.in-Err.ensures.answered

pub returns-in-Err-clause-calls : goal.returns-in-Err-clause-calls
returns-in-Err-clause-calls g c =
    let s = c.args.self.now in
    let h = g.H.Hearer in
    let l : c.loop-task.task < length c.args.self.now.world.tasks = rw (← c.self.view_is) (omega (arith, c.loop-task-test.true, c.tasks-task-end.ensures.tasks)) in
    heard_fails h.hears (length s.world.tasks) c.loop-task.task s c.loop-task.self _ (h.told c.args.hearer.now) _ _ l c.loop-task.invariant.state c.in-Err.ensures.failed c.loop-task.invariant.calls c.in-Err.ensures.calls
