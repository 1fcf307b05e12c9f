use Rattle.std.proofs.Common.{Some, sym, ap, ◌∙◌, arith}
use Rattle.std.proofs.lemmas.Option.{slice_get_within}
use Rattle.scx_isa_semantics.specs.Directories.{Keys, slot_of}
use Rattle.scx_maps.proofs.SlotOf.{slot_of-holds, live-some}
use Rattle.scx_maps.proofs.Kept.{room_to_free, deleted_kept}
use Rattle.scx_maps.proofs.keys.Keys.delete.Goals as goal

pub index_mut-requires : goal.index_mut-requires
index_mut-requires c =
    let held = ap (λ (k : Keys). slot_of k.held c.args.key) c.self.view_is in
    let there = slot_of-holds c.self.inside.held.items c.args.key c.in-Some.slot (held ∙ sym c.in-Some.ensures) in
    omega (arith, c.self.inside.held.ok.0, slice_get_within c.self.inside.held.items c.in-Some.slot (Some c.args.key) there)

pub push_reserved-requires : goal.push_reserved-requires
push_reserved-requires c =
    let held = ap (λ (k : Keys). slot_of k.held c.args.key) c.self.view_is in
    let there = slot_of-holds c.self.inside.held.items c.args.key c.in-Some.slot (held ∙ sym c.in-Some.ensures) in
    let some = live-some c.self.inside.held.items c.in-Some.slot c.args.key there in
    omega (arith, c.self.inside.freed.ok.0, room_to_free c.self.inside.held.items c.self.inside.freed.items c.self.inside.used _ c.self.inside.index c.self.invariant some)

pub invariant_of-self : goal.invariant_of-self
invariant_of-self c =
    let held = ap (λ (k : Keys). slot_of k.held c.args.key) c.self.view_is in
    let there = slot_of-holds c.self.inside.held.items c.args.key c.in-Some.slot (held ∙ sym c.in-Some.ensures) in
    rw (c.push_reserved.ensures.items, c.push_reserved.ensures.capacity)
    (deleted_kept c.self.inside.held.items c.self.inside.freed.items c.self.inside.used _ c.self.inside.index c.in-Some.slot c.args.key c.self.invariant there)
