use Rattle.std.proofs.Common.{◌≡◌, ◌≢◌, ◌+◌, ◌-◌, ◌*◌, ◌<◌, ◌≤◌, length, arith}
use Rattle.std.proofs.lemmas.List.{length-set}
use Rattle.std.proofs.lemmas.List.Sorted.{IsPermutation-refl, IsPermutation-trans}
use Rattle.scx_dsq.specs.Heaps.{IsFirstChild, with_item, with_spot}
use Rattle.scx_dsq.proofs.Heaps.{fell_none, fell_more, fallen, heap_at_end}
use Rattle.scx_dsq.proofs.Spots.{keeps_none, keeps_more}
use Rattle.scx_dsq.proofs.Shifts.{moved, flipped, first_held, task_within, no_item}
use Rattle.scx_dsq.proofs.heap.make_way_to_end.Goals as goal

pub loop-child-init : goal.loop-child-init
loop-child-init g c = record {
  spots_kept = c.requires.spots;
  others = keeps_none (with_item c.args.items.now c.args.item c.args.start) (with_spot c.args.spots.now c.args.item c.args.start);
  inside = omega (arith, c.requires.within, length-set c.args.items.now c.args.start c.args.item);
  heap = c.requires.heap;
  same = IsPermutation-refl (with_item c.args.items.now c.args.item c.args.start);
  more = omega arith;
  cost = let none : c.args.steps.now - c.args.steps.now ≡ 0 = omega arith in rw none (fell_none (with_item c.args.items.now c.args.item c.args.start) c.args.start);
}

pub loop-child-preserved : goal.loop-child-preserved
loop-child-preserved g c =
    let inv = c.loop-child.invariant in
    let plain : IsFirstChild c.loop-child.items c.loop-child.at c.in-Some.child = c.in-Some.ensures.child in
    let child = first_held c.loop-child.items c.args.item c.loop-child.at c.in-Some.child plain in
    let within : c.loop-child.at < length c.loop-child.items = let inside = inv.inside in omega (arith, inside, length-set c.loop-child.items c.loop-child.at c.args.item) in
    let apart : c.loop-child.at ≢ c.in-Some.child = let of = plain.of in let some = plain.positive in λ e. absurd (omega (arith, e)) in
    let s = moved c.loop-child.items c.put.new.items c.loop-child.spots c.put.new.spots c.args.item no_item c.loop-child.at c.in-Some.child apart within plain.inside c.put.ensures.items c.put.ensures.spots inv.spots_kept in
    let swapped = flipped (with_item c.loop-child.items c.args.item c.loop-child.at) (with_item c.put.new.items c.args.item c.in-Some.child) c.loop-child.at c.in-Some.child apart s.swapped in
    let few : c.first_child.new.steps - c.args.steps.now ≤ c.loop-child.steps - c.args.steps.now + 1 = let more = inv.more in omega (arith, c.in-Some.ensures.cost) in
    let twice : 2 * (c.loop-child.at + 1) ≤ c.in-Some.child + 1 = let of = plain.of in let some = plain.positive in omega arith in
    record {
      spots_kept = s.placed;
      others = keeps_more (with_item c.args.items.now c.args.item c.args.start) (with_item c.loop-child.items c.args.item c.loop-child.at) (with_spot c.args.spots.now c.args.item c.args.start) (with_spot c.loop-child.spots c.args.item c.loop-child.at) (with_spot c.put.new.spots c.args.item c.in-Some.child) inv.same inv.others s.others;
      inside = let inside = child.inside in omega (arith, inside, s.long);
      heap = fallen (with_item c.loop-child.items c.args.item c.loop-child.at) (with_item c.put.new.items c.args.item c.in-Some.child) c.loop-child.at c.in-Some.child inv.heap child s.long swapped;
      same = IsPermutation-trans _ _ _ inv.same s.same;
      more = let more = inv.more in omega (arith, c.in-Some.ensures.more);
      cost = fell_more (with_item c.args.items.now c.args.item c.args.start) (with_item c.loop-child.items c.args.item c.loop-child.at) (with_item c.put.new.items c.args.item c.in-Some.child) c.args.start c.loop-child.at c.in-Some.child _ _ inv.cost few twice swapped;
    }

pub returns-clause-heap : goal.returns-clause-heap
returns-clause-heap g c =
    let inv = c.loop-child.invariant in
    heap_at_end (with_item c.loop-child.items c.args.item c.loop-child.at) c.loop-child.at inv.heap (let none = c.in_default.ensures.none in omega (arith, none, length-set c.loop-child.items c.loop-child.at c.args.item))

pub returns-clause-cost : goal.returns-clause-cost
returns-clause-cost g c =
    let same : c.first_child.new.steps ≡ c.loop-child.steps = c.in_default.ensures.free in
    rw same c.loop-child.invariant.cost

pub put-requires-clause-task : goal.put-requires-clause-task
put-requires-clause-task g c =
    let plain : IsFirstChild c.loop-child.items c.loop-child.at c.in-Some.child = c.in-Some.ensures.child in
    let apart : c.in-Some.child ≢ c.loop-child.at = let of = plain.of in let some = plain.positive in λ e. absurd (omega (arith, e)) in
    task_within c.loop-child.items c.loop-child.spots c.args.item no_item c.loop-child.at c.in-Some.child apart plain.inside c.loop-child.invariant.spots_kept
