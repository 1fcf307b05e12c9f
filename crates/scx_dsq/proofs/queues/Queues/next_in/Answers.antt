use Rattle.std.proofs.Common.{◌≡◌, ◌<◌, length, ap, ◌∙◌, arith}
use Rattle.std.proofs.lemmas.List.{get_or_read}
use Rattle.scx_dsq.specs.declared.links.Link.{Link}
use Rattle.scx_dsq.specs.Queues.{IsQueueAt}
use Rattle.scx_dsq.specs.Links.{no_link, link_at, WaitsInOrder}
use Rattle.scx_dsq.specs.Kept.{state_of}
use Rattle.scx_dsq.proofs.Standing.{waits_below}
use Rattle.scx_dsq.proofs.Among.{next_in}
use Rattle.scx_dsq.proofs.queues.Queues.next_in.Goals as goal

pub returns : goal.returns
returns c =
    let at : IsQueueAt (state_of c.self.inside) c.args.place c.args.id = rw (← c.self.view_is) at c.requires.place in
    let w : WaitsInOrder c.self.inside.entries.items c.args.id c.args.task = rw (← c.self.view_is) at c.requires.waits in
    let within : c.args.task < length c.self.inside.entries.items = waits_below c.self.inside.entries.items c.args.task w.entry w.waits.0 in
    let read : c.index.result.now ≡ link_at c.self.inside.links.items c.args.task = get_or_read c.self.inside.links.items c.args.task c.index.result.now (omega (arith, c.self.invariant.links, within)) c.index.ensures no_link in
    let is : c.get.result ≡ (link_at c.self.inside.links.items c.args.task).next = c.get.ensures ∙ ap (λ (l : Link). l.next) read in
    rw (← c.self.view_is, is) (next_in c.self.inside c.args.place c.args.id c.args.task c.self.invariant at w)
