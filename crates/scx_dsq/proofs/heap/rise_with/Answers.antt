use Rattle.scx_dsq.proofs.Shifts.{held_within}
use Rattle.scx_dsq.proofs.heap.rise_with.Goals as goal

pub put-requires-clause-task : goal.put-requires-clause-task
put-requires-clause-task g c = held_within c.make_way_up-at.new.items c.make_way_up-at.new.spots c.args.item c.make_way_up-at.result c.make_way_up-at.ensures.within c.make_way_up-at.ensures.spots

pub returns-clause-spots : goal.returns-clause-spots
returns-clause-spots g c = rw (c.put.ensures.items, c.put.ensures.spots) c.make_way_up-at.ensures.spots

pub returns-clause-others : goal.returns-clause-others
returns-clause-others g c = rw c.put.ensures.spots c.make_way_up-at.ensures.others

pub returns-clause-same : goal.returns-clause-same
returns-clause-same g c = rw c.put.ensures.items c.make_way_up-at.ensures.same

pub returns-clause-cost : goal.returns-clause-cost
returns-clause-cost g c = rw c.put.ensures.items c.make_way_up-at.ensures.cost
