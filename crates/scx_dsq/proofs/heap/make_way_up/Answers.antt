use Rattle.std.proofs.Common.{◌≡◌, ◌≢◌, ◌+◌, ◌-◌, ◌<◌, ◌≤◌, length, true, false, sym, ◌∙◌, arith}
use Rattle.std.proofs.lemmas.List.{length-set}
use Rattle.std.proofs.lemmas.List.Sorted.{IsPermutation-refl, IsPermutation-trans}
use Rattle.scx_dsq.specs.Heaps.{parent, with_item, with_spot}
use Rattle.scx_dsq.proofs.Heaps.{rises_none, rises_more, rose, rose_here, exchanged, heap_here}
use Rattle.scx_dsq.proofs.Spots.{keeps_none, keeps_more}
use Rattle.scx_dsq.proofs.Shifts.{moved, held_before, task_within, no_item}
use Rattle.scx_dsq.proofs.heap.make_way_up.Goals as goal

pub loop-at-init : goal.loop-at-init
loop-at-init g c = record {
  spots_kept = c.requires.spots;
  others = keeps_none (with_item c.args.items.now c.args.item c.args.start) (with_spot c.args.spots.now c.args.item c.args.start);
  inside = omega (arith, c.requires.within, length-set c.args.items.now c.args.start c.args.item);
  heap = c.requires.heap;
  same = IsPermutation-refl (with_item c.args.items.now c.args.item c.args.start);
  more = omega arith;
  cost = let none : c.args.steps.now - c.args.steps.now ≡ 0 = omega arith in rw none (rises_none (with_item c.args.items.now c.args.item c.args.start) c.args.start);
}

pub loop-at-preserved : goal.loop-at-preserved
loop-at-preserved g c =
    let inv = c.loop-at.invariant in
    let up = c.loop-at-test.true in
    let within : c.loop-at.at < length c.loop-at.items = let inside = inv.inside in omega (arith, inside, length-set c.loop-at.items c.loop-at.at c.args.item) in
    let above : parent c.loop-at.at < length c.loop-at.items = omega arith in
    let apart : c.loop-at.at ≢ parent c.loop-at.at = λ e. absurd (omega (arith, e)) in
    let s = moved c.loop-at.items c.put.new.items c.loop-at.spots c.put.new.spots c.args.item no_item c.loop-at.at (parent c.loop-at.at) apart within above c.put.ensures.items c.put.ensures.spots inv.spots_kept in
    let early = held_before c.loop-at.items c.args.item no_item c.loop-at.at (parent c.loop-at.at) true (λ e. apart (sym e)) within above (sym c.is_before.ensures.answer ∙ c.if-not-is_before.false) in
    let few : c.is_before.new.steps - c.args.steps.now ≤ c.loop-at.steps - c.args.steps.now + 1 = let more = inv.more in omega (arith, c.is_before.ensures.counted) in
    record {
      spots_kept = s.placed;
      others = keeps_more (with_item c.args.items.now c.args.item c.args.start) (with_item c.loop-at.items c.args.item c.loop-at.at) (with_spot c.args.spots.now c.args.item c.args.start) (with_spot c.loop-at.spots c.args.item c.loop-at.at) (with_spot c.put.new.spots c.args.item (parent c.loop-at.at)) inv.same inv.others s.others;
      inside = omega (arith, above, s.long, length-set c.loop-at.items c.loop-at.at c.args.item);
      heap = exchanged (with_item c.loop-at.items c.args.item c.loop-at.at) (with_item c.put.new.items c.args.item (parent c.loop-at.at)) c.loop-at.at up inv.inside s.long s.swapped early inv.heap;
      same = IsPermutation-trans _ _ _ inv.same s.same;
      more = let more = inv.more in omega (arith, c.is_before.ensures.counted);
      cost = rises_more (with_item c.args.items.now c.args.item c.args.start) (with_item c.loop-at.items c.args.item c.loop-at.at) (with_item c.put.new.items c.args.item (parent c.loop-at.at)) c.args.start c.loop-at.at _ _ inv.cost few up s.swapped;
    }

pub returns-then-not-is_before-clause-heap : goal.returns-then-not-is_before-clause-heap
returns-then-not-is_before-clause-heap g c =
    let inv = c.loop-at.invariant in
    let up = c.loop-at-test.true in
    let within : c.loop-at.at < length c.loop-at.items = let inside = inv.inside in omega (arith, inside, length-set c.loop-at.items c.loop-at.at c.args.item) in
    let above : parent c.loop-at.at < length c.loop-at.items = omega arith in
    heap_here (with_item c.loop-at.items c.args.item c.loop-at.at) c.loop-at.at inv.heap
    (held_before c.loop-at.items c.args.item no_item c.loop-at.at (parent c.loop-at.at) false (λ e. absurd (omega (arith, e))) within above (sym c.is_before.ensures.answer ∙ c.if-not-is_before.true))

pub returns-then-not-is_before-clause-spots : goal.returns-then-not-is_before-clause-spots
returns-then-not-is_before-clause-spots g c = c.loop-at.invariant.spots_kept

pub returns-then-not-is_before-clause-others : goal.returns-then-not-is_before-clause-others
returns-then-not-is_before-clause-others g c = c.loop-at.invariant.others

pub returns-then-not-is_before-clause-same : goal.returns-then-not-is_before-clause-same
returns-then-not-is_before-clause-same g c = c.loop-at.invariant.same

pub returns-then-not-is_before-clause-cost : goal.returns-then-not-is_before-clause-cost
returns-then-not-is_before-clause-cost g c =
    let inv = c.loop-at.invariant in
    let few : c.is_before.new.steps - c.args.steps.now ≤ c.loop-at.steps - c.args.steps.now + 1 = let more = inv.more in omega (arith, c.is_before.ensures.counted) in
    rose (with_item c.args.items.now c.args.item c.args.start) (with_item c.loop-at.items c.args.item c.loop-at.at) c.args.start c.loop-at.at _ _ inv.cost few c.loop-at-test.true

pub returns-after-loop-at-clause-heap : goal.returns-after-loop-at-clause-heap
returns-after-loop-at-clause-heap g c = λ k some lt. c.loop-at.invariant.heap.others k some lt (λ e. absurd (omega (arith, e)))

pub returns-after-loop-at-clause-spots : goal.returns-after-loop-at-clause-spots
returns-after-loop-at-clause-spots g c = c.loop-at.invariant.spots_kept

pub returns-after-loop-at-clause-others : goal.returns-after-loop-at-clause-others
returns-after-loop-at-clause-others g c = c.loop-at.invariant.others

pub returns-after-loop-at-clause-same : goal.returns-after-loop-at-clause-same
returns-after-loop-at-clause-same g c = c.loop-at.invariant.same

pub returns-after-loop-at-clause-cost : goal.returns-after-loop-at-clause-cost
returns-after-loop-at-clause-cost g c = rose_here (with_item c.args.items.now c.args.item c.args.start) (with_item c.loop-at.items c.args.item c.loop-at.at) c.args.start c.loop-at.at _ c.loop-at.invariant.cost

pub put-requires-clause-task : goal.put-requires-clause-task
put-requires-clause-task g c =
    let inv = c.loop-at.invariant in
    let up = c.loop-at-test.true in
    let above : parent c.loop-at.at < length c.loop-at.items = let inside = inv.inside in omega (arith, inside, length-set c.loop-at.items c.loop-at.at c.args.item) in
    task_within c.loop-at.items c.loop-at.spots c.args.item no_item c.loop-at.at (parent c.loop-at.at) (λ e. absurd (omega (arith, e))) above inv.spots_kept
