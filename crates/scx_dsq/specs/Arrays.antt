-- The arrays of queues by virtual time, and what a call on a queue costs. Who waits where
-- doesn't depend on them.
use Rattle.std.specs.Prelude.{◌≡◌, ◌≢◌, ℕ, ◌==◌, List, [], slice_index_or, IsTrue}
use Rattle.std.specs.List.{position_or_len}
use Rattle.scx_dsq.specs.declared.entries.Rank.TheVariants.{Fifo}
use Rattle.scx_dsq.specs.declared.entries.Entry.{Entry}
use Rattle.scx_dsq.specs.declared.heap.Item.{Item}
use Rattle.scx_dsq.specs.Entries.{same_sort}
use Rattle.scx_dsq.specs.Queues.{QueueState, Waits}
use Rattle.scx_dsq.specs.Heaps.{IsCheap}

-- what `Queues` are in contracts: their state, and the arrays beside it
pub record QueuesValue : Type 0 where
  pub state : QueueState  -- who waits where
  pub arrays : List (List Item)  -- the array of each queue, in the order of its ids

-- the array of a queue, empty if it isn't there
abbrev pub array_of : QueuesValue → ℕ → List Item
array_of v id = slice_index_or v.arrays (position_or_len (λ other. other == id) v.state.ids) []

-- a call on that queue that made n comparisons. `IsCheap` bounds them and the positions
-- of the queue's array that have changed; a queue in order of arrival needs none, and the arrays of
-- others stay as they were
pub record IsPaid (old new : QueuesValue) (id steps : ℕ) : Type 0 where
  pub cheap : IsCheap (array_of old id) (array_of new id) steps
  pub fifo : (t : ℕ) (p : Entry)
      → Waits old.state id t p → IsTrue (same_sort p.rank Fifo) → steps ≡ 0
  pub others : (other : ℕ) → other ≢ id → array_of new other ≡ array_of old other
