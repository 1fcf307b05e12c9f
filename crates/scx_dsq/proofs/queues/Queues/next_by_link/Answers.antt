use Rattle.std.proofs.Common.{◌≡◌, ◌<◌, Some, false, sym, ap, ◌∙◌, arith}
use Rattle.std.proofs.lemmas.Bool.{both_ways}
use Rattle.std.proofs.lemmas.List.{get_or_read}
use Rattle.scx_dsq.specs.declared.links.Link.{Link}
use Rattle.scx_dsq.specs.Queues.{IsQueueAt, exists, task_count, entry_of}
use Rattle.scx_dsq.specs.Links.{no_link, link_at}
use Rattle.scx_dsq.specs.Kept.{state_of}
use Rattle.scx_dsq.proofs.QueueReads.{stands_at}
use Rattle.scx_dsq.proofs.Removals.{waiting}
use Rattle.scx_dsq.proofs.After.{behind_at}
use Rattle.scx_dsq.proofs.queues.Queues.next_by_link.Goals as goal

pub unreachable-requires : goal.unreachable-requires
unreachable-requires c =
    let waits : entry_of (state_of c.self.inside) c.args.task ≡ Some c.args.entry = rw (← c.self.view_is) at c.requires.waits in
    let out : exists (state_of c.self.inside) c.queue.result ≡ false = rw (← c.deref.ensures.value) (sym c.in_default.ensures.found) in
    both_ways _ (rw c.queue.ensures at out) (c.self.invariant.sound.homes c.args.task c.args.entry waits)

pub returns : goal.returns
returns c =
    let within : c.args.task < task_count (state_of c.self.inside) = rw (← c.self.view_is) at c.requires.task in
    let waits : entry_of (state_of c.self.inside) c.args.task ≡ Some c.args.entry = rw (← c.self.view_is) at c.requires.waits in
    let found : IsQueueAt (state_of c.self.inside) c.in-Some.index c.queue.result = stands_at c.self.inside _ c.in-Some.index c.queue.result c.deref.ensures.value c.in-Some.ensures.at in
    let at : IsQueueAt (state_of c.self.inside) c.in-Some.index c.args.entry.queue = rw c.queue.ensures at found in
    let w = waiting c.self.inside c.in-Some.index c.args.task c.args.entry c.index-queue.result.now at waits c.index-queue.ensures in
    let read : c.index.result.now ≡ link_at c.self.inside.links.items c.args.task = get_or_read c.self.inside.links.items c.args.task c.index.result.now (omega (arith, c.self.invariant.links, within)) c.index.ensures no_link in
    rw (← c.self.view_is)
    (c.get.ensures ∙ ap (λ (l : Link). l.next) read ∙ behind_at c.self.inside c.in-Some.index c.args.task c.args.entry c.index-queue.result.now c.self.invariant w c.requires.fifo)
