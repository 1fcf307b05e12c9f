use Rattle.std.proofs.Common.{◌≡◌, length, subst, arith}
use Rattle.scx_dsq.specs.Heaps.{HasLeader}
use Rattle.scx_dsq.proofs.Among.{none_leads, item_more}
use Rattle.scx_dsq.proofs.choosing.first_by_vtime.Goals as goal

pub loop-at-init : goal.loop-at-init
loop-at-init g c = record { first = none_leads (g.S.TaskSet.has c.args.tasks.now) c.args.items.now; cost = omega arith }

pub loop-at-preserved : goal.loop-at-preserved
loop-at-preserved g c = record {
  first = item_more (g.S.TaskSet.has c.args.tasks.now) c.args.items.now c.loop-at.at _ c.loop-at.first c.leader-first.result c.loop-at-test.true c.leader-first.ensures.leader c.loop-at.invariant.first;
  cost = omega (arith, c.leader-first.ensures.cost, c.loop-at.invariant.cost);
}

pub returns-clause-first : goal.returns-clause-first
returns-clause-first g c =
    let done : c.loop-at.at ≡ length c.args.items.now = omega (arith, c.loop-at-test.false, c.loop-at.auto.at-end) in
    subst (λ n. HasLeader (g.S.TaskSet.has c.args.tasks.now) c.args.items.now n c.loop-at.first) done c.loop-at.invariant.first

pub returns-clause-cost : goal.returns-clause-cost
returns-clause-cost g c = omega (arith, c.loop-at-test.false, c.loop-at.auto.at-end, c.loop-at.invariant.cost)
