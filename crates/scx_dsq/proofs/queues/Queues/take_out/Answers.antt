use Rattle.std.proofs.Common.{◌≡◌, ◌-◌, Some, arith}
use Rattle.scx_dsq.specs.Queues.{IsQueueAt, entry_of}
use Rattle.scx_dsq.specs.Kept.{state_of}
use Rattle.scx_dsq.proofs.Orders.{alike_arrival}
use Rattle.scx_dsq.proofs.Removals.{waiting, can_remove, alike_keyless, like_leave, like_left, left, removed_keeps, removed_state, removed_paid}
use Rattle.scx_dsq.proofs.queues.Queues.take_out.Goals as goal

pub leave-requires : goal.leave-requires
leave-requires g c =
    let at : IsQueueAt (state_of c.self.inside) c.args.index c.args.entry.queue = rw (← c.self.view_is) at c.requires.place in
    let waits : entry_of (state_of c.self.inside) c.args.task ≡ Some c.args.entry = rw (← c.self.view_is) at c.requires.waits in
    let w = waiting c.self.inside c.args.index c.args.task c.args.entry c.index_mut.result.now at waits c.index_mut.ensures.value in
    rw (c.deref_mut.ensures.value, c.deref_mut-2.ensures.value) (like_leave c.args.entry.rank c.sort.result _ _ c.index_mut.result.now c.args.task (alike_keyless c.args.entry.rank c.sort.result c.sort.ensures) (can_remove c.self.inside c.args.index c.args.task c.args.entry c.index_mut.result.now c.self.invariant w))

pub invariant_of-self : goal.invariant_of-self
invariant_of-self g c =
    let at : IsQueueAt (state_of c.self.inside) c.args.index c.args.entry.queue = rw (← c.self.view_is) at c.requires.place in
    let waits : entry_of (state_of c.self.inside) c.args.task ≡ Some c.args.entry = rw (← c.self.view_is) at c.requires.waits in
    let w = waiting c.self.inside c.args.index c.args.task c.args.entry c.index_mut.result.now at waits c.index_mut.ensures.value in
    let l = left c.self.inside c.args.index c.args.task c.args.entry c.index_mut.result.now c.self.invariant w c.leave.new.queue c.deref_mut.result.now c.leave.new.links c.deref_mut-2.result.now c.leave.new.spots c.deref_mut.ensures.value c.deref_mut-2.ensures.value
    (like_left c.args.entry.rank c.sort.result c.deref_mut.result.now c.leave.new.links c.deref_mut-2.result.now c.leave.new.spots c.index_mut.result.now c.leave.new.queue c.args.task (alike_keyless c.args.entry.rank c.sort.result c.sort.ensures) c.leave.ensures.left) in
    removed_keeps c.self.inside c.args.index c.args.task c.args.entry c.index_mut.result.now c.self.invariant w _ c.leave.new.queue c.leave.new.links c.leave.new.spots l.0 l.1

pub returns-clause-state : goal.returns-clause-state
returns-clause-state g c =
    let at : IsQueueAt (state_of c.self.inside) c.args.index c.args.entry.queue = rw (← c.self.view_is) at c.requires.place in
    let waits : entry_of (state_of c.self.inside) c.args.task ≡ Some c.args.entry = rw (← c.self.view_is) at c.requires.waits in
    let w = waiting c.self.inside c.args.index c.args.task c.args.entry c.index_mut.result.now at waits c.index_mut.ensures.value in
    let l = left c.self.inside c.args.index c.args.task c.args.entry c.index_mut.result.now c.self.invariant w c.leave.new.queue c.deref_mut.result.now c.leave.new.links c.deref_mut-2.result.now c.leave.new.spots c.deref_mut.ensures.value c.deref_mut-2.ensures.value
    (like_left c.args.entry.rank c.sort.result c.deref_mut.result.now c.leave.new.links c.deref_mut-2.result.now c.leave.new.spots c.index_mut.result.now c.leave.new.queue c.args.task (alike_keyless c.args.entry.rank c.sort.result c.sort.ensures) c.leave.ensures.left) in
    rw (← c.self.view_is) (removed_state c.self.inside c.args.index c.args.task c.args.entry c.index_mut.result.now c.self.invariant w _ c.leave.new.queue c.leave.new.links c.leave.new.spots l.0 l.1)

pub returns-clause-cost : goal.returns-clause-cost
returns-clause-cost g c =
    let at : IsQueueAt (state_of c.self.inside) c.args.index c.args.entry.queue = rw (← c.self.view_is) at c.requires.place in
    let waits : entry_of (state_of c.self.inside) c.args.task ≡ Some c.args.entry = rw (← c.self.view_is) at c.requires.waits in
    let w = waiting c.self.inside c.args.index c.args.task c.args.entry c.index_mut.result.now at waits c.index_mut.ensures.value in
    let l = left c.self.inside c.args.index c.args.task c.args.entry c.index_mut.result.now c.self.invariant w c.leave.new.queue c.deref_mut.result.now c.leave.new.links c.deref_mut-2.result.now c.leave.new.spots c.deref_mut.ensures.value c.deref_mut-2.ensures.value
    (like_left c.args.entry.rank c.sort.result c.deref_mut.result.now c.leave.new.links c.deref_mut-2.result.now c.leave.new.spots c.index_mut.result.now c.leave.new.queue c.args.task (alike_keyless c.args.entry.rank c.sort.result c.sort.ensures) c.leave.ensures.left) in
    rw (← c.self.view_is) (removed_paid c.self.inside c.args.index c.args.task c.args.entry c.index_mut.result.now c.self.invariant w _ c.leave.new.queue c.leave.new.links c.leave.new.spots l.0 l.1 (c.leave.new.steps - c.args.steps.now) c.leave.ensures.cost (λ is. let free = c.leave.ensures.fifo (alike_arrival c.args.entry.rank c.sort.result (alike_keyless c.args.entry.rank c.sort.result c.sort.ensures) is) in omega (arith, free)))
