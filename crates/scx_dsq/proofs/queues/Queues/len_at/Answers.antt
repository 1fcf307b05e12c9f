use Rattle.std.proofs.Common.{◌∙◌, refl, arith}
use Rattle.scx_dsq.specs.Queues.{IsQueueAt}
use Rattle.scx_dsq.specs.Kept.{state_of}
use Rattle.scx_dsq.proofs.QueueReads.{len_at, found_at}
use Rattle.scx_dsq.proofs.queues.Queues.len_at.Goals as goal

pub index-requires : goal.index-requires
index-requires c =
    let at : IsQueueAt (state_of c.self.inside) c.args.place c.args.id = rw (← c.self.view_is) at c.requires in
    let inside = (found_at c.self.inside c.args.place c.args.id at).0 in omega (arith, inside, c.self.inside.live.ok.0)

pub returns : goal.returns
returns c =
    let at : IsQueueAt (state_of c.self.inside) c.args.place c.args.id = rw (← c.self.view_is) at c.requires in
    rw (← c.self.view_is) (c.len.ensures ∙ len_at c.self.inside c.self.inside.live.items c.args.place c.args.id c.index.result.now c.self.invariant refl (found_at c.self.inside c.args.place c.args.id at) c.index.ensures)
