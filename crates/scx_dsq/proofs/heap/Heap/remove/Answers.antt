use Rattle.std.proofs.Common.{◌≡◌, ◌<◌, ◌≤◌, ◌∷◌, length, slice_index_or, rules, arith, sym, subst, ap, ◌∙◌, refl}
use Rattle.std.specs.List.Sorted.{IsPermutation}
use Rattle.std.proofs.lemmas.List.{get_or_default}
use Rattle.std.proofs.lemmas.List.Sorted.{IsPermutation-trans, IsPermutation-cons}
use Rattle.scx_dsq.specs.declared.heap.Item.{Item}
use Rattle.scx_dsq.specs.Heaps.{HasSpots}
use Rattle.scx_dsq.proofs.HeapEdits.{gone, still_gone, task_within, spot_within, taken_out, permuted, heap_taken, spots_moved, keeps_moved, spots_taken, keeps_taken, cheap_settled, cheap_taken, written_back}
use Rattle.scx_dsq.proofs.heap.Heap.remove.Goals as goal

pub bounds-spots-task : goal.bounds-spots-task
bounds-spots-task g c = task_within c.args.self.now.items c.args.spots.now c.args.task c.requires.spots c.requires.task

pub swap_remove-item-requires : goal.swap_remove-item-requires
swap_remove-item-requires g c =
    let inside : slice_index_or c.args.spots.now c.args.task 0 < length c.self.inside.items.items = rw (← c.self.view_is) at (spot_within c.args.self.now.items c.args.spots.now c.args.task c.requires.spots c.requires.task) in
    search rules

pub settle-requires-clause-spots : goal.settle-requires-clause-spots
settle-requires-clause-spots g c =
    let inside : slice_index_or c.args.spots.now c.args.task 0 < length c.self.inside.items.items = rw (← c.self.view_is) at (spot_within c.args.self.now.items c.args.spots.now c.args.task c.requires.spots c.requires.task) in
    let taken = taken_out c.self.inside.items.items c.swap_remove-item.new.self.items (slice_index_or c.args.spots.now c.args.task 0) c.swap_remove-item.result inside c.swap_remove-item.ensures.items in
    let size : c.len.result ≡ length c.swap_remove-item.new.self.items = c.len.ensures ∙ sym c.deref_mut.ensures.len ∙ ap length c.deref_mut.ensures.value in
    let within : slice_index_or c.args.spots.now c.args.task 0 < length c.swap_remove-item.new.self.items = subst (λ n. slice_index_or c.args.spots.now c.args.task 0 < n) size c.if-at-len.true in
    let read : (d : Item) → slice_index_or c.swap_remove-item.new.self.items (slice_index_or c.args.spots.now c.args.task 0) d ≡ c.index.result.now = λ d. get_or_default c.swap_remove-item.new.self.items (slice_index_or c.args.spots.now c.args.task 0) d c.index.result.now within ∙ sym c.index.ensures in
    let stand : HasSpots c.self.inside.items.items c.args.spots.now = rw (← c.self.view_is) at c.requires.spots in
    rw c.deref_mut.ensures.value (spots_moved c.self.inside.items.items c.swap_remove-item.new.self.items (slice_index_or c.args.spots.now c.args.task 0) taken c.args.spots.now c.index.result.now within read stand)

pub settle-requires-clause-heap : goal.settle-requires-clause-heap
settle-requires-clause-heap g c =
    let inside : slice_index_or c.args.spots.now c.args.task 0 < length c.self.inside.items.items = rw (← c.self.view_is) at (spot_within c.args.self.now.items c.args.spots.now c.args.task c.requires.spots c.requires.task) in
    let taken = taken_out c.self.inside.items.items c.swap_remove-item.new.self.items (slice_index_or c.args.spots.now c.args.task 0) c.swap_remove-item.result inside c.swap_remove-item.ensures.items in
    let size : c.len.result ≡ length c.swap_remove-item.new.self.items = c.len.ensures ∙ sym c.deref_mut.ensures.len ∙ ap length c.deref_mut.ensures.value in
    let within : slice_index_or c.args.spots.now c.args.task 0 < length c.swap_remove-item.new.self.items = subst (λ n. slice_index_or c.args.spots.now c.args.task 0 < n) size c.if-at-len.true in
    rw c.deref_mut.ensures.value (heap_taken c.self.inside.items.items c.swap_remove-item.new.self.items (slice_index_or c.args.spots.now c.args.task 0) taken within (rw (← c.self.view_is) at c.requires.heap))

pub returns-then-at-len-clause-spots : goal.returns-then-at-len-clause-spots
returns-then-at-len-clause-spots g c =
    let whole = written_back c.swap_remove-item.new.self.len c.settle.new.items c.swap_remove-item.new.self.items (omega (arith, c.settle.auto.items, c.deref_mut.ensures.len)) in
    rw whole c.settle.ensures.spots

pub returns-then-at-len-clause-others : goal.returns-then-at-len-clause-others
returns-then-at-len-clause-others g c =
    let inside : slice_index_or c.args.spots.now c.args.task 0 < length c.self.inside.items.items = rw (← c.self.view_is) at (spot_within c.args.self.now.items c.args.spots.now c.args.task c.requires.spots c.requires.task) in
    let taken = taken_out c.self.inside.items.items c.swap_remove-item.new.self.items (slice_index_or c.args.spots.now c.args.task 0) c.swap_remove-item.result inside c.swap_remove-item.ensures.items in
    let size : c.len.result ≡ length c.swap_remove-item.new.self.items = c.len.ensures ∙ sym c.deref_mut.ensures.len ∙ ap length c.deref_mut.ensures.value in
    let within : slice_index_or c.args.spots.now c.args.task 0 < length c.swap_remove-item.new.self.items = subst (λ n. slice_index_or c.args.spots.now c.args.task 0 < n) size c.if-at-len.true in
    let read : (d : Item) → slice_index_or c.swap_remove-item.new.self.items (slice_index_or c.args.spots.now c.args.task 0) d ≡ c.index.result.now = λ d. get_or_default c.swap_remove-item.new.self.items (slice_index_or c.args.spots.now c.args.task 0) d c.index.result.now within ∙ sym c.index.ensures in
    let stand : HasSpots c.self.inside.items.items c.args.spots.now = rw (← c.self.view_is) at c.requires.spots in
    let moved = permuted c.self.inside.items.items c.swap_remove-item.new.self.items (slice_index_or c.args.spots.now c.args.task 0) c.swap_remove-item.result inside c.swap_remove-item.ensures.value c.swap_remove-item.ensures.items in
    let kept = keeps_moved c.self.inside.items.items c.swap_remove-item.new.self.items (slice_index_or c.args.spots.now c.args.task 0) taken c.args.spots.now c.index.result.now within read stand in
    rw (← c.self.view_is) (keeps_taken c.self.inside.items.items c.swap_remove-item.new.self.items c.swap_remove-item.result c.args.spots.now _ c.settle.new.spots moved kept (rw c.deref_mut.ensures.value at c.settle.ensures.others))

pub returns-then-at-len-clause-same : goal.returns-then-at-len-clause-same
returns-then-at-len-clause-same g c =
    let inside : slice_index_or c.args.spots.now c.args.task 0 < length c.self.inside.items.items = rw (← c.self.view_is) at (spot_within c.args.self.now.items c.args.spots.now c.args.task c.requires.spots c.requires.task) in
    let moved = permuted c.self.inside.items.items c.swap_remove-item.new.self.items (slice_index_or c.args.spots.now c.args.task 0) c.swap_remove-item.result inside c.swap_remove-item.ensures.value c.swap_remove-item.ensures.items in
    let whole = written_back c.swap_remove-item.new.self.len c.settle.new.items c.swap_remove-item.new.self.items (omega (arith, c.settle.auto.items, c.deref_mut.ensures.len)) in
    let after : IsPermutation c.swap_remove-item.new.self.items c.settle.new.items = rw c.deref_mut.ensures.value at c.settle.ensures.same in
    rw (whole, ← c.self.view_is) (IsPermutation-trans c.self.inside.items.items (c.swap_remove-item.result ∷ c.swap_remove-item.new.self.items) (c.swap_remove-item.result ∷ c.settle.new.items) moved (IsPermutation-cons c.swap_remove-item.result c.swap_remove-item.new.self.items c.settle.new.items after))

pub returns-then-at-len-clause-cost : goal.returns-then-at-len-clause-cost
returns-then-at-len-clause-cost g c =
    let inside : slice_index_or c.args.spots.now c.args.task 0 < length c.self.inside.items.items = rw (← c.self.view_is) at (spot_within c.args.self.now.items c.args.spots.now c.args.task c.requires.spots c.requires.task) in
    let taken = taken_out c.self.inside.items.items c.swap_remove-item.new.self.items (slice_index_or c.args.spots.now c.args.task 0) c.swap_remove-item.result inside c.swap_remove-item.ensures.items in
    let size : c.len.result ≡ length c.swap_remove-item.new.self.items = c.len.ensures ∙ sym c.deref_mut.ensures.len ∙ ap length c.deref_mut.ensures.value in
    let within : slice_index_or c.args.spots.now c.args.task 0 < length c.swap_remove-item.new.self.items = subst (λ n. slice_index_or c.args.spots.now c.args.task 0 < n) size c.if-at-len.true in
    let whole = written_back c.swap_remove-item.new.self.len c.settle.new.items c.swap_remove-item.new.self.items (omega (arith, c.settle.auto.items, c.deref_mut.ensures.len)) in
    rw (whole, ← c.self.view_is) (cheap_settled c.self.inside.items.items c.swap_remove-item.new.self.items (slice_index_or c.args.spots.now c.args.task 0) taken c.settle.new.items _ within (rw c.deref_mut.ensures.value at c.settle.ensures.cost))

pub returns-else-at-len-clause-spots : goal.returns-else-at-len-clause-spots
returns-else-at-len-clause-spots g c =
    let inside : slice_index_or c.args.spots.now c.args.task 0 < length c.self.inside.items.items = rw (← c.self.view_is) at (spot_within c.args.self.now.items c.args.spots.now c.args.task c.requires.spots c.requires.task) in
    let taken = taken_out c.self.inside.items.items c.swap_remove-item.new.self.items (slice_index_or c.args.spots.now c.args.task 0) c.swap_remove-item.result inside c.swap_remove-item.ensures.items in
    let past : length c.swap_remove-item.new.self.items ≤ slice_index_or c.args.spots.now c.args.task 0 = search rules in
    spots_taken c.self.inside.items.items c.swap_remove-item.new.self.items (slice_index_or c.args.spots.now c.args.task 0) taken c.args.spots.now past (rw (← c.self.view_is) at c.requires.spots)

pub returns-else-at-len-clause-same : goal.returns-else-at-len-clause-same
returns-else-at-len-clause-same g c =
    let inside : slice_index_or c.args.spots.now c.args.task 0 < length c.self.inside.items.items = rw (← c.self.view_is) at (spot_within c.args.self.now.items c.args.spots.now c.args.task c.requires.spots c.requires.task) in
    rw (← c.self.view_is) (permuted c.self.inside.items.items c.swap_remove-item.new.self.items (slice_index_or c.args.spots.now c.args.task 0) c.swap_remove-item.result inside c.swap_remove-item.ensures.value c.swap_remove-item.ensures.items)

pub returns-else-at-len-clause-cost : goal.returns-else-at-len-clause-cost
returns-else-at-len-clause-cost g c =
    let inside : slice_index_or c.args.spots.now c.args.task 0 < length c.self.inside.items.items = rw (← c.self.view_is) at (spot_within c.args.self.now.items c.args.spots.now c.args.task c.requires.spots c.requires.task) in
    let taken = taken_out c.self.inside.items.items c.swap_remove-item.new.self.items (slice_index_or c.args.spots.now c.args.task 0) c.swap_remove-item.result inside c.swap_remove-item.ensures.items in
    let past : length c.swap_remove-item.new.self.items ≤ slice_index_or c.args.spots.now c.args.task 0 = search rules in
    rw (← c.self.view_is) (cheap_taken c.self.inside.items.items c.swap_remove-item.new.self.items (slice_index_or c.args.spots.now c.args.task 0) taken _ (omega arith) past)

pub returns-then-at-len-clause-gone : goal.returns-then-at-len-clause-gone
returns-then-at-len-clause-gone g c =
    let inside : slice_index_or c.args.spots.now c.args.task 0 < length c.self.inside.items.items = rw (← c.self.view_is) at (spot_within c.args.self.now.items c.args.spots.now c.args.task c.requires.spots c.requires.task) in
    let taken = taken_out c.self.inside.items.items c.swap_remove-item.new.self.items (slice_index_or c.args.spots.now c.args.task 0) c.swap_remove-item.result inside c.swap_remove-item.ensures.items in
    let out = gone c.self.inside.items.items c.swap_remove-item.new.self.items (slice_index_or c.args.spots.now c.args.task 0) taken c.args.spots.now c.args.task (rw (← c.self.view_is) at c.requires.spots) refl in
    let whole = written_back c.swap_remove-item.new.self.len c.settle.new.items c.swap_remove-item.new.self.items (omega (arith, c.settle.auto.items, c.deref_mut.ensures.len)) in
    let after : IsPermutation c.swap_remove-item.new.self.items c.settle.new.items = rw c.deref_mut.ensures.value at c.settle.ensures.same in
    rw whole (still_gone c.swap_remove-item.new.self.items c.settle.new.items c.args.task after out)

pub returns-else-at-len-clause-gone : goal.returns-else-at-len-clause-gone
returns-else-at-len-clause-gone g c =
    let inside : slice_index_or c.args.spots.now c.args.task 0 < length c.self.inside.items.items = rw (← c.self.view_is) at (spot_within c.args.self.now.items c.args.spots.now c.args.task c.requires.spots c.requires.task) in
    let taken = taken_out c.self.inside.items.items c.swap_remove-item.new.self.items (slice_index_or c.args.spots.now c.args.task 0) c.swap_remove-item.result inside c.swap_remove-item.ensures.items in
    gone c.self.inside.items.items c.swap_remove-item.new.self.items (slice_index_or c.args.spots.now c.args.task 0) taken c.args.spots.now c.args.task (rw (← c.self.view_is) at c.requires.spots) refl

pub returns-then-at-len-clause-heap : goal.returns-then-at-len-clause-heap
returns-then-at-len-clause-heap g c =
    let whole = written_back c.swap_remove-item.new.self.len c.settle.new.items c.swap_remove-item.new.self.items (omega (arith, c.settle.auto.items, c.deref_mut.ensures.len)) in
    rw whole c.settle.ensures.heap
