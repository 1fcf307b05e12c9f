-- The items of a queue by virtual time, and where their tasks wait.
use Rattle.std.specs.Prelude.{◌≡◌, ℕ, ◌⊎◌, List, [], length, Some, All, count_by}
use Rattle.scx_dsq.specs.declared.entries.Entry.{Entry}
use Rattle.scx_dsq.specs.declared.entries.Rank.TheVariants.{Vtime}
use Rattle.scx_dsq.specs.declared.priority.Priority.{Priority}
use Rattle.scx_dsq.specs.declared.heap.Item.{Item}
use Rattle.scx_dsq.specs.Queues.{Entries, entry_at, is_in}
use Rattle.scx_dsq.specs.Links.{In}
use Rattle.scx_dsq.specs.Heaps.{IsIn}
use Rattle.scx_dsq.specs.Arrays.{QueuesValue, array_of}

-- the entry in the queue of a task with that priority
abbrev pub entry_for : ℕ → Priority → Entry
entry_for id p = record { queue = id; rank = Vtime p.key; stamp = p.stamp }

-- the items are those who wait in the queue, each by its priority
pub record Holds (entries : Entries) (id : ℕ) (items : List Item) : Type 0 where
  pub there : All (λ x. entry_at entries x.task ≡ Some (entry_for id x.priority)) items
  pub all : (t : ℕ) (p : Entry) → In entries id t p → IsIn items t
  pub count : length items ≡ count_by (is_in id) entries

-- each array has nobody, as that of a queue in FIFO order, or those who wait in its queue
abbrev pub HasArrays : QueuesValue → Type 0
HasArrays v = (id : ℕ) → (array_of v id ≡ []) ⊎ Holds v.state.entries id (array_of v id)
