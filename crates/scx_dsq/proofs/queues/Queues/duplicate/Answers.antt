use Rattle.std.proofs.Common.{◌≡◌, ◌∙◌, ◌+◌, ◌≤◌, length, vec_capacity, refl, rules}
use Rattle.scx_dsq.specs.declared.queues.Queues.TheInside.{Inside}
use Rattle.scx_dsq.specs.Kept.{AreSame}
use Rattle.scx_dsq.proofs.Copies.{duplicate_value, duplicate_keeps}
use Rattle.scx_dsq.proofs.queues.Queues.duplicate.Goals as goal

pub invariant_of-result : goal.invariant_of-result
invariant_of-result c =
    let live = c.self.inside.live in
    let tasks : c.len-tasks.result ≡ length c.self.inside.entries.items = search rules in
    let copies : AreSame (length c.self.inside.entries.items) live.items c.in_ok-live_with_room.field-0.items = rw (← tasks, ← c.deref.ensures.value) c.in_ok-live_with_room.ensures.copies in
    let count : length c.in_ok-live_with_room.field-0.items ≡ length live.items = search rules in
    let spares : length c.in_ok-spare_heaps.field-0.items ≡ length c.self.inside.spare.items = search rules in
    let room : length live.items + length c.self.inside.spare.items ≤ vec_capacity c.in_ok-live_with_room.field-0 = search rules in
    let orders : length c.self.inside.order.items + length c.self.inside.spare.items ≤ vec_capacity c.in_ok-order_with_room.field-0 = search rules in
    let entries : c.in_ok-from_slice.field-0.items ≡ c.self.inside.entries.items = search rules in
    let links : c.in_ok-from_slice-2.field-0.items ≡ c.self.inside.links.items = search rules in
    let spots : c.in_ok-from_slice-3.field-0.items ≡ c.self.inside.spots.items = search rules in
    let order : c.in_ok-order_with_room.field-0.items ≡ c.self.inside.order.items = search rules in
    duplicate_keeps c.self.inside _ copies count entries refl spares c.self.invariant links spots order (rw (← tasks) c.in_ok-spare_heaps.ensures.empty) room orders

pub returns : goal.returns
returns c =
    let live = c.self.inside.live in
    let tasks : c.len-tasks.result ≡ length c.self.inside.entries.items = search rules in
    let copies : AreSame (length c.self.inside.entries.items) live.items c.in_ok-live_with_room.field-0.items = rw (← tasks, ← c.deref.ensures.value) c.in_ok-live_with_room.ensures.copies in
    let count : length c.in_ok-live_with_room.field-0.items ≡ length live.items = search rules in
    let spares : length c.in_ok-spare_heaps.field-0.items ≡ length c.self.inside.spare.items = search rules in
    let entries : c.in_ok-from_slice.field-0.items ≡ c.self.inside.entries.items = search rules in
    let made : Inside = record {
      live = c.in_ok-live_with_room.field-0;
      order = c.in_ok-order_with_room.field-0;
      spare = c.in_ok-spare_heaps.field-0;
      entries = c.in_ok-from_slice.field-0;
      links = c.in_ok-from_slice-2.field-0;
      spots = c.in_ok-from_slice-3.field-0;
      guesses = c.self.inside.guesses;
      pushes = c.self.inside.pushes;
    } in
    duplicate_value c.self.inside made copies count entries refl spares ∙ c.self.view_is
