use Rattle.std.proofs.Common.{◌∙◌, refl, arith}
use Rattle.scx_dsq.specs.Queues.{IsQueueAt}
use Rattle.scx_dsq.specs.Kept.{state_of}
use Rattle.scx_dsq.proofs.QueueReads.{clash_read, queue_read, found_at}
use Rattle.scx_dsq.proofs.queues.Queues.clashes_at.Goals as goal

pub index-requires : goal.index-requires
index-requires c =
    let at : IsQueueAt (state_of c.self.inside) c.args.place c.args.id = rw (← c.self.view_is) at c.requires in
    let inside = (found_at c.self.inside c.args.place c.args.id at).0 in omega (arith, inside, c.self.inside.live.ok.0)

pub returns : goal.returns
returns c =
    let at : IsQueueAt (state_of c.self.inside) c.args.place c.args.id = rw (← c.self.view_is) at c.requires in
    let queue = queue_read c.self.inside c.self.inside.live.items c.args.place c.args.id c.index.result.now refl (found_at c.self.inside c.args.place c.args.id at) c.index.ensures in
    rw (← c.self.view_is) (c.clashes.ensures ∙ clash_read c.self.inside c.args.place c.args.id c.args.rank c.index.result.now c.self.invariant queue.0 c.index.ensures queue.1)
