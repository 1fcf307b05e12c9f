use Rattle.std.proofs.Common.{ℕ, ◌-◌, ◌≤◌, ◌<◌, List, length}
use Rattle.std.specs.List.Sorted.{IsPermutation}
use Rattle.scx_dsq.specs.declared.heap.Item.{Item}
use Rattle.scx_dsq.specs.Heaps.{IsHeapBut, HasSpots, KeepsOthers, with_item, with_spot}
use Rattle.scx_dsq.proofs.Heaps.{Rises}
use Rattle.scx_dsq.proofs.heap.make_way_up.Given as goal

-- of the items with the one that is held aside put back
pub record Keeps (items now : List Item) (old spots : List ℕ) (start at before steps : ℕ) : Type 0 where
  pub spots_kept : HasSpots now spots
  pub others : KeepsOthers items old spots
  pub inside : at < length now
  pub heap : IsHeapBut now at
  pub same : IsPermutation items now
  pub more : before ≤ steps
  pub cost : Rises items now start at (steps - before)

abbrev pub invariant-loop-at : goal.invariant-loop-at
invariant-loop-at g l =
    Keeps (with_item l.initial.items l.item l.start) (with_item l.items l.item l.at) (with_spot l.initial.spots l.item l.start) (with_spot l.spots l.item l.at) l.start l.at l.initial.steps l.steps

abbrev pub decreases-loop-at : goal.decreases-loop-at
decreases-loop-at g l = l.at
