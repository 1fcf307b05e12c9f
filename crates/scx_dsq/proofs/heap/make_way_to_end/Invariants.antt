use Rattle.std.proofs.Common.{ℕ, ◌-◌, ◌≤◌, ◌<◌, List, length}
use Rattle.std.specs.List.Sorted.{IsPermutation}
use Rattle.scx_dsq.specs.declared.heap.Item.{Item}
use Rattle.scx_dsq.specs.Heaps.{IsHeapAround, Fell, HasSpots, KeepsOthers, with_item, with_spot}
use Rattle.scx_dsq.proofs.heap.make_way_to_end.Given as goal

-- of the items with the one that is held aside put back
pub record Keeps (items now : List Item) (old spots : List ℕ) (start at before steps : ℕ) : Type 0 where
  pub spots_kept : HasSpots now spots
  pub others : KeepsOthers items old spots
  pub inside : at < length now
  pub heap : IsHeapAround now at
  pub same : IsPermutation items now
  pub more : before ≤ steps
  pub cost : Fell items now start at (steps - before)

abbrev pub invariant-loop-child : goal.invariant-loop-child
invariant-loop-child g l =
    Keeps (with_item l.initial.items l.fn.item l.start) (with_item l.items l.fn.item l.at) (with_spot l.initial.spots l.fn.item l.start) (with_spot l.spots l.fn.item l.at) l.start l.at l.initial.steps l.steps

abbrev pub decreases-loop-child : goal.decreases-loop-child
decreases-loop-child g l = length l.initial.items - l.at
