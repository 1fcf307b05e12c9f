use Rattle.std.proofs.Common.{◌-◌, ◌<◌, length, slice_index_or, arith}
use Rattle.std.proofs.lemmas.List.{length-set}
use Rattle.std.specs.List.Sorted.{IsPermutation}
use Rattle.std.proofs.lemmas.List.Sorted.{IsPermutation-trans}
use Rattle.scx_dsq.specs.Heaps.{IsHeapAround, Settled, HasSpots, KeepsOthers, with_item}
use Rattle.scx_dsq.proofs.Heaps.{settled}
use Rattle.scx_dsq.proofs.Spots.{keeps_more}
use Rattle.scx_dsq.proofs.Shifts.{holds_here, held_here, no_item}
use Rattle.scx_dsq.proofs.heap.settle.Goals as goal

pub make_way_to_end-hole-requires-clause-spots : goal.make_way_to_end-hole-requires-clause-spots
make_way_to_end-hole-requires-clause-spots g c = holds_here c.args.items.now c.args.spots.now c.args.at no_item HasSpots c.requires.within c.requires.spots c.requires.spots

pub make_way_to_end-hole-requires-clause-heap : goal.make_way_to_end-hole-requires-clause-heap
make_way_to_end-hole-requires-clause-heap g c = holds_here c.args.items.now c.args.spots.now c.args.at no_item (λ items spots. IsHeapAround items c.args.at) c.requires.within c.requires.spots c.requires.heap

pub returns-clause-others : goal.returns-clause-others
returns-clause-others g c =
    held_here c.args.items.now c.args.spots.now c.args.at no_item (λ items spots. KeepsOthers items spots c.rise_with.new.spots) c.requires.within c.requires.spots
    (keeps_more _ (with_item c.make_way_to_end-hole.new.items (slice_index_or c.args.items.now c.args.at no_item) c.make_way_to_end-hole.result) _ _ c.rise_with.new.spots c.make_way_to_end-hole.ensures.same c.make_way_to_end-hole.ensures.others c.rise_with.ensures.others)

pub returns-clause-same : goal.returns-clause-same
returns-clause-same g c =
    held_here c.args.items.now c.args.spots.now c.args.at no_item (λ items spots. IsPermutation items c.rise_with.new.items) c.requires.within c.requires.spots
    (IsPermutation-trans _ _ _ c.make_way_to_end-hole.ensures.same c.rise_with.ensures.same)

pub returns-clause-cost : goal.returns-clause-cost
returns-clause-cost g c =
    let within : c.make_way_to_end-hole.result < length (with_item c.args.items.now (slice_index_or c.args.items.now c.args.at no_item) c.args.at) = let inside = c.make_way_to_end-hole.ensures.within in omega (arith, inside, c.make_way_to_end-hole.auto.items, length-set c.args.items.now c.args.at (slice_index_or c.args.items.now c.args.at no_item)) in
    held_here c.args.items.now c.args.spots.now c.args.at no_item (λ items spots. Settled items c.rise_with.new.items c.args.at (c.rise_with.new.steps - c.args.steps.now)) c.requires.within c.requires.spots
    (settled _ _ c.rise_with.new.items c.args.at c.make_way_to_end-hole.result _ _ _ within c.make_way_to_end-hole.ensures.cost c.rise_with.ensures.cost (omega (arith, c.make_way_to_end-hole.ensures.more, c.rise_with.ensures.more)))
