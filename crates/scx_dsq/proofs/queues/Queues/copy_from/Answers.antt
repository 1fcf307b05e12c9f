use Rattle.std.proofs.Common.{◌≡◌, length, sym, ap, ◌∙◌, refl, subst, arith}
use Rattle.std.proofs.lemmas.List.{with_items_is}
use Rattle.std.specs.Vec.{with_items}
use Rattle.scx_dsq.specs.declared.queues.Queues.TheInside.{Inside}
use Rattle.scx_dsq.specs.Queues.{task_count}
use Rattle.scx_dsq.specs.Arrays.{QueuesValue}
use Rattle.scx_dsq.specs.Kept.{ids_of, AreCopies}
use Rattle.scx_dsq.proofs.Copies.{room_for, as_many, copied_value, copied_keeps}
use Rattle.scx_dsq.proofs.queues.Queues.copy_from.Goals as goal

pub copy_each-requires : goal.copy_each-requires
copy_each-requires c =
    let ids : ids_of c.self.inside.live.items ≡ ids_of c.other.inside.live.items = ap (λ (v : QueuesValue). v.state.ids) c.self.view_is ∙ (c.requires.queues ∙ sym (ap (λ (v : QueuesValue). v.state.ids) c.other.view_is)) in
    let tasks : length c.self.inside.entries.items ≡ length c.other.inside.entries.items = ap (λ (v : QueuesValue). task_count v.state) c.self.view_is ∙ (c.requires.tasks ∙ sym (ap (λ (v : QueuesValue). task_count v.state) c.other.view_is)) in
    let many = as_many c.self.inside.live.items c.other.inside.live.items ids in
    rw (c.deref_mut.ensures.value, c.deref.ensures.value) (record {
      count = many;
      room = room_for c.self.inside c.other.inside c.self.invariant c.other.invariant tasks many;
    })

pub returns : goal.returns
returns c =
    let ids : ids_of c.self.inside.live.items ≡ ids_of c.other.inside.live.items = ap (λ (v : QueuesValue). v.state.ids) c.self.view_is ∙ (c.requires.queues ∙ sym (ap (λ (v : QueuesValue). v.state.ids) c.other.view_is)) in
    let rooms = ap (λ (v : QueuesValue). v.state.room) c.self.view_is ∙ (c.requires.room ∙ sym (ap (λ (v : QueuesValue). v.state.room) c.other.view_is)) in
    let count : length c.copy_each.new.live ≡ length c.self.inside.live.items = c.copy_each.ensures.count ∙ ap length c.deref_mut.ensures.value in
    let shown = with_items_is c.self.inside.live c.copy_each.new.live (omega (arith, count, c.self.inside.live.ok.0)) in
    let copies : AreCopies c.self.inside.live.items c.other.inside.live.items c.copy_each.new.live = rw (c.deref_mut.ensures.value, c.deref.ensures.value) at c.copy_each.ensures.copies in
    let made : Inside = record {
      live = with_items c.self.inside.live c.copy_each.new.live;
      order = c.self.inside.order;
      spare = c.self.inside.spare;
      entries = c.copy_from_slice.new.self;
      links = c.copy_from_slice-2.new.self;
      spots = c.copy_from_slice-3.new.self;
      guesses = c.self.inside.guesses;
      pushes = c.other.inside.pushes;
    } in
    copied_value c.self.inside c.other.inside made rooms ids (subst (λ qs. AreCopies c.self.inside.live.items c.other.inside.live.items qs) (sym shown) copies) (ap length shown ∙ count)
    (c.copy_from_slice.ensures.items ∙ c.deref-2.ensures.value) refl refl
    ∙ c.other.view_is

pub invariant_of-self : goal.invariant_of-self
invariant_of-self c =
    let ids : ids_of c.self.inside.live.items ≡ ids_of c.other.inside.live.items = ap (λ (v : QueuesValue). v.state.ids) c.self.view_is ∙ (c.requires.queues ∙ sym (ap (λ (v : QueuesValue). v.state.ids) c.other.view_is)) in
    let rooms = ap (λ (v : QueuesValue). v.state.room) c.self.view_is ∙ (c.requires.room ∙ sym (ap (λ (v : QueuesValue). v.state.room) c.other.view_is)) in
    let tasks : length c.self.inside.entries.items ≡ length c.other.inside.entries.items = ap (λ (v : QueuesValue). task_count v.state) c.self.view_is ∙ (c.requires.tasks ∙ sym (ap (λ (v : QueuesValue). task_count v.state) c.other.view_is)) in
    let count : length c.copy_each.new.live ≡ length c.self.inside.live.items = c.copy_each.ensures.count ∙ ap length c.deref_mut.ensures.value in
    let shown = with_items_is c.self.inside.live c.copy_each.new.live (omega (arith, count, c.self.inside.live.ok.0)) in
    let copies : AreCopies c.self.inside.live.items c.other.inside.live.items c.copy_each.new.live = rw (c.deref_mut.ensures.value, c.deref.ensures.value) at c.copy_each.ensures.copies in
    copied_keeps c.self.inside c.other.inside _ rooms ids (subst (λ qs. AreCopies c.self.inside.live.items c.other.inside.live.items qs) (sym shown) copies) (ap length shown ∙ count)
    (c.copy_from_slice.ensures.items ∙ c.deref-2.ensures.value) refl refl c.self.invariant c.other.invariant tasks (c.copy_from_slice-2.ensures.items ∙ c.deref-3.ensures.value) (c.copy_from_slice-3.ensures.items ∙ c.deref-4.ensures.value) refl refl
