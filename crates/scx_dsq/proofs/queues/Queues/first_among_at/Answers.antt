use Rattle.std.proofs.Common.{sym, ◌∙◌, arith}
use Rattle.scx_dsq.specs.Queues.{IsQueueAt}
use Rattle.scx_dsq.specs.Kept.{state_of}
use Rattle.scx_dsq.proofs.Among.{first_is_known, starts_at, leader_at}
use Rattle.scx_dsq.proofs.queues.Queues.first_among_at.Goals as goal

pub first_from-requires : goal.first_from-requires
first_from-requires g c =
    let at : IsQueueAt (state_of c.self.inside) c.args.place c.args.id = rw (← c.self.view_is) at c.requires in
    let starts = starts_at c.self.inside c.args.place c.args.id c.in-Some.first c.index-queue.result.now c.self.invariant at c.index-queue.ensures (sym c.get.ensures ∙ c.in-Some.is) in
    record {
      place = c.requires;
      front = rw (← c.self.view_is) starts.0;
      order = rw (← c.self.view_is) starts.1;
      stamps = rw (← c.self.view_is) c.self.invariant.sound.stamps;
    }

pub returns-in-Some-clause-known : goal.returns-in-Some-clause-known
returns-in-Some-clause-known g c = first_is_known (g.S.TaskSet.has c.args.tasks.now) c.args.self.now.state c.args.id c.first_from.result c.first_from.ensures.answer

pub returns-in-None-clause-answer : goal.returns-in-None-clause-answer
returns-in-None-clause-answer g c =
    let at : IsQueueAt (state_of c.self.inside) c.args.place c.args.id = rw (← c.self.view_is) at c.requires in
    let leader = leader_at (g.S.TaskSet.has c.args.tasks.now) c.self.inside c.args.place c.args.id c.index-queue.result.now c.items.result.now c.first_by_vtime.result c.self.invariant at c.index-queue.ensures (sym c.get.ensures ∙ c.in-None.is) c.items.ensures c.first_by_vtime.ensures.first in
    rw (← c.self.view_is) (c.task_of.ensures ∙ leader.0)

pub returns-in-None-clause-known : goal.returns-in-None-clause-known
returns-in-None-clause-known g c = first_is_known (g.S.TaskSet.has c.args.tasks.now) c.args.self.now.state c.args.id c.task_of.result (returns-in-None-clause-answer g c)

pub returns-in-None-clause-cost : goal.returns-in-None-clause-cost
returns-in-None-clause-cost g c =
    let at : IsQueueAt (state_of c.self.inside) c.args.place c.args.id = rw (← c.self.view_is) at c.requires in
    let leader = leader_at (g.S.TaskSet.has c.args.tasks.now) c.self.inside c.args.place c.args.id c.index-queue.result.now c.items.result.now c.first_by_vtime.result c.self.invariant at c.index-queue.ensures (sym c.get.ensures ∙ c.in-None.is) c.items.ensures c.first_by_vtime.ensures.first in
    rw (← c.self.view_is) (omega (arith, leader.1, c.first_by_vtime.ensures.cost))
