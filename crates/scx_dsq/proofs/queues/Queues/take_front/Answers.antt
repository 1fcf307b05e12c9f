use Rattle.std.proofs.Common.{◌-◌, arith}
use Rattle.scx_dsq.specs.Queues.{IsQueueAt, IsFront}
use Rattle.scx_dsq.specs.Kept.{state_of}
use Rattle.scx_dsq.proofs.Costs.{paid_by}
use Rattle.scx_dsq.proofs.QueueReads.{found_at}
use Rattle.scx_dsq.proofs.Removals.{leaving, like_left, left, removed_keeps, removed_state, removed_paid}
use Rattle.scx_dsq.proofs.queues.Queues.take_front.Goals as goal

pub index-requires : goal.index-requires
index-requires g c =
    let at : IsQueueAt (state_of c.self.inside) c.args.place c.args.id = rw (← c.self.view_is) at c.requires.place in
    let inside = (found_at c.self.inside c.args.place c.args.id at).0 in omega (arith, inside, c.self.inside.live.ok.0)

pub leave_first-requires-clause-leave : goal.leave_first-requires-clause-leave
leave_first-requires-clause-leave g c =
    let at : IsQueueAt (state_of c.self.inside) c.args.place c.args.id = rw (← c.self.view_is) at c.requires.place in
    let f : IsFront (state_of c.self.inside) c.args.id c.args.task = rw (← c.self.view_is) at c.requires.front in
    let w = leaving c.self.inside c.args.place c.args.id c.args.task c.index_mut.result.now c.index.result.now c.sort-rank.result c.self.invariant at f c.index_mut.ensures.value c.index.ensures c.sort-rank.ensures in
    rw (c.deref_mut.ensures.value, c.deref_mut-2.ensures.value) w.can

pub leave_first-requires-clause-ahead : goal.leave_first-requires-clause-ahead
leave_first-requires-clause-ahead g c =
    let at : IsQueueAt (state_of c.self.inside) c.args.place c.args.id = rw (← c.self.view_is) at c.requires.place in
    let f : IsFront (state_of c.self.inside) c.args.id c.args.task = rw (← c.self.view_is) at c.requires.front in
    let w = leaving c.self.inside c.args.place c.args.id c.args.task c.index_mut.result.now c.index.result.now c.sort-rank.result c.self.invariant at f c.index_mut.ensures.value c.index.ensures c.sort-rank.ensures in
    rw c.deref_mut.ensures.value w.ahead

pub invariant_of-self : goal.invariant_of-self
invariant_of-self g c =
    let at : IsQueueAt (state_of c.self.inside) c.args.place c.args.id = rw (← c.self.view_is) at c.requires.place in
    let f : IsFront (state_of c.self.inside) c.args.id c.args.task = rw (← c.self.view_is) at c.requires.front in
    let w = leaving c.self.inside c.args.place c.args.id c.args.task c.index_mut.result.now c.index.result.now c.sort-rank.result c.self.invariant at f c.index_mut.ensures.value c.index.ensures c.sort-rank.ensures in
    let l = left c.self.inside c.args.place c.args.task f.entry c.index_mut.result.now c.self.invariant w.waiting c.leave_first.new.queue c.deref_mut.result.now c.leave_first.new.links c.deref_mut-2.result.now c.leave_first.new.spots c.deref_mut.ensures.value c.deref_mut-2.ensures.value
    (like_left f.entry.rank c.sort-rank.result c.deref_mut.result.now c.leave_first.new.links c.deref_mut-2.result.now c.leave_first.new.spots c.index_mut.result.now c.leave_first.new.queue c.args.task w.alike c.leave_first.ensures.left) in
    removed_keeps c.self.inside c.args.place c.args.task f.entry c.index_mut.result.now c.self.invariant w.waiting _ c.leave_first.new.queue c.leave_first.new.links c.leave_first.new.spots l.0 l.1

pub returns-clause-state : goal.returns-clause-state
returns-clause-state g c =
    let at : IsQueueAt (state_of c.self.inside) c.args.place c.args.id = rw (← c.self.view_is) at c.requires.place in
    let f : IsFront (state_of c.self.inside) c.args.id c.args.task = rw (← c.self.view_is) at c.requires.front in
    let w = leaving c.self.inside c.args.place c.args.id c.args.task c.index_mut.result.now c.index.result.now c.sort-rank.result c.self.invariant at f c.index_mut.ensures.value c.index.ensures c.sort-rank.ensures in
    let l = left c.self.inside c.args.place c.args.task f.entry c.index_mut.result.now c.self.invariant w.waiting c.leave_first.new.queue c.deref_mut.result.now c.leave_first.new.links c.deref_mut-2.result.now c.leave_first.new.spots c.deref_mut.ensures.value c.deref_mut-2.ensures.value
    (like_left f.entry.rank c.sort-rank.result c.deref_mut.result.now c.leave_first.new.links c.deref_mut-2.result.now c.leave_first.new.spots c.index_mut.result.now c.leave_first.new.queue c.args.task w.alike c.leave_first.ensures.left) in
    rw (← c.self.view_is) (removed_state c.self.inside c.args.place c.args.task f.entry c.index_mut.result.now c.self.invariant w.waiting _ c.leave_first.new.queue c.leave_first.new.links c.leave_first.new.spots l.0 l.1)

pub returns-clause-cost : goal.returns-clause-cost
returns-clause-cost g c =
    let at : IsQueueAt (state_of c.self.inside) c.args.place c.args.id = rw (← c.self.view_is) at c.requires.place in
    let f : IsFront (state_of c.self.inside) c.args.id c.args.task = rw (← c.self.view_is) at c.requires.front in
    let w = leaving c.self.inside c.args.place c.args.id c.args.task c.index_mut.result.now c.index.result.now c.sort-rank.result c.self.invariant at f c.index_mut.ensures.value c.index.ensures c.sort-rank.ensures in
    let l = left c.self.inside c.args.place c.args.task f.entry c.index_mut.result.now c.self.invariant w.waiting c.leave_first.new.queue c.deref_mut.result.now c.leave_first.new.links c.deref_mut-2.result.now c.leave_first.new.spots c.deref_mut.ensures.value c.deref_mut-2.ensures.value
    (like_left f.entry.rank c.sort-rank.result c.deref_mut.result.now c.leave_first.new.links c.deref_mut-2.result.now c.leave_first.new.spots c.index_mut.result.now c.leave_first.new.queue c.args.task w.alike c.leave_first.ensures.left) in
    rw (← c.self.view_is) (paid_by f.entry.queue c.args.id f.waits.1 (removed_paid c.self.inside c.args.place c.args.task f.entry c.index_mut.result.now c.self.invariant w.waiting _ c.leave_first.new.queue c.leave_first.new.links c.leave_first.new.spots l.0 l.1 (c.leave_first.new.steps - c.args.steps.now) c.leave_first.ensures.cost (λ is. let free = c.leave_first.ensures.fifo (w.fifo is) in omega (arith, free))))
