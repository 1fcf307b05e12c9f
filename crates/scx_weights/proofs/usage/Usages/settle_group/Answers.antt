use Rattle.std.proofs.Common.{arith, ap, ◌∙◌, ◌+◌, ◌<◌, cond, length, get_or}
use Rattle.std.proofs.lemmas.List.{get_or_read}
use Rattle.scx_weights.specs.Hierarchy.{lies_in}
use Rattle.scx_weights.proofs.Settling.{pending_within, lies_within, settled_step}
use Rattle.scx_weights.proofs.usage.Usages.settle_group.Goals as goal

pub add-requires-clause-room : goal.add-requires-clause-room
add-requires-clause-room c g lies =
    let groups = c.args.groups.now in
    let home = c.args.home in
    let self = c.args.self.now in
    let lt : g < length groups = lies_within groups home g c.requires.forest c.requires.known lies in
    let read = get_or_read self.pending.items home c.index-ms.result.now (omega (arith, c.requires.pending_length, c.requires.known)) c.index-ms.ensures 0 in
    omega (arith, read, c.requires.room g lt, pending_within groups self.used.items self.pending.items home g c.requires.known lt lies)

pub returns-clause-counted : goal.returns-clause-counted
returns-clause-counted c g lt =
    let groups = c.args.groups.now in
    let home = c.args.home in
    let self = c.args.self.now in
    let read = get_or_read self.pending.items home c.index-ms.result.now (omega (arith, c.requires.pending_length, c.requires.known)) c.index-ms.ensures 0 in
    rw c.add.ensures.pending
    (settled_step groups self.used.items c.add.new.self.used.items self.pending.items home g c.requires.known lt c.requires.pending_length
    (c.add.ensures.counted g lt ∙ ap (λ n. get_or self.used.items g 0 + cond (lies_in groups home g) n 0) read))
