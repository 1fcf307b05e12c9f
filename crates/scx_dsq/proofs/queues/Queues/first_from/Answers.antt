use Rattle.std.proofs.Common.{◌-◌, ◌<◌, sym, ◌∙◌, arith}
use Rattle.scx_dsq.specs.Queues.{len_of, entry_of}
use Rattle.scx_dsq.proofs.Among.{ahead_of, ahead_fewer, begins, arrives, ends, ahead_more, goes_on}
use Rattle.scx_dsq.proofs.queues.Queues.first_from.Goals as goal

pub loop-task-init : goal.loop-task-init
loop-task-init g c = begins (g.S.TaskSet.has c.args.tasks.now) c.args.self.now.state c.args.id c.requires.order c.requires.stamps c.args.front c.args.steps.now c.count.new.self c.requires.front (omega (arith, c.count.ensures))

pub returns-in_default-clause-answer : goal.returns-in_default-clause-answer
returns-in_default-clause-answer g c = ends (g.S.TaskSet.has c.args.tasks.now) c.args.self.now.state c.args.id c.requires.order c.requires.stamps c.loop-task.task c.args.steps.now c.loop-task.steps c.loop-task.invariant c.in_default.ensures (sym c.has.ensures ∙ c.loop-task-test.true)

pub returns-in_default-clause-cost : goal.returns-in_default-clause-cost
returns-in_default-clause-cost g c = omega (arith, c.loop-task.invariant.cost, ahead_fewer c.args.self.now.state c.args.id c.loop-task.task c.loop-task.invariant.entry c.loop-task.invariant.waits)

pub loop-task-smaller : goal.loop-task-smaller
loop-task-smaller g c =
    let n = c.in-Some.ensures in
    let more = ahead_more (g.S.TaskSet.has c.args.tasks.now) c.args.self.now.state c.args.id c.requires.order c.requires.stamps c.loop-task.task c.args.steps.now c.loop-task.steps c.loop-task.invariant c.in-Some.next n in
    let few = ahead_fewer c.args.self.now.state c.args.id c.in-Some.next n.entry_behind n.waits_behind in
    let less : len_of c.args.self.now.state c.args.id - ahead_of c.args.self.now.state.entries c.args.id (entry_of c.args.self.now.state c.in-Some.next) < len_of c.args.self.now.state c.args.id - ahead_of c.args.self.now.state.entries c.args.id (entry_of c.args.self.now.state c.loop-task.task) = omega (arith, more, few) in
    less

pub loop-task-preserved : goal.loop-task-preserved
loop-task-preserved g c = goes_on (g.S.TaskSet.has c.args.tasks.now) c.args.self.now.state c.args.id c.requires.order c.requires.stamps c.loop-task.task c.args.steps.now c.loop-task.steps c.loop-task.invariant c.in-Some.next c.in-Some.ensures c.count-in-loop-task.new.self (sym c.has.ensures ∙ c.loop-task-test.true) (omega (arith, c.count-in-loop-task.ensures))

pub returns-clause-answer : goal.returns-clause-answer
returns-clause-answer g c = arrives (g.S.TaskSet.has c.args.tasks.now) c.args.self.now.state c.args.id c.requires.order c.requires.stamps c.loop-task.task c.args.steps.now c.loop-task.steps c.loop-task.invariant (sym c.has.ensures ∙ c.loop-task-test.false)

pub returns-clause-cost : goal.returns-clause-cost
returns-clause-cost g c = omega (arith, c.loop-task.invariant.cost, ahead_fewer c.args.self.now.state c.args.id c.loop-task.task c.loop-task.invariant.entry c.loop-task.invariant.waits)
