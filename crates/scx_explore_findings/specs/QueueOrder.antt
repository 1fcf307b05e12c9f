-- Queues that are the same but for the order numbers of pushes: the same tasks wait in the same
-- queues, by the same keys, and leave them in the same order.
use Rattle.std.specs.Prelude.{◌≡◌, ℕ, Bool, false, ◌==◌, ◌&&◌, length, Option, Some, None, option_map}
use Rattle.scx_dsq.specs.declared.entries.Entry.{Entry}
use Rattle.scx_dsq.specs.declared.entries.Rank.{Rank}
use Rattle.scx_dsq.specs.declared.entries.Rank.TheVariants.{Fifo, Front, Vtime}
use Rattle.scx_dsq.specs.Entries.{is_before}
use Rattle.scx_dsq.specs.Queues.{QueueState, entry_of}
use Rattle.scx_dsq.specs.Laws.{IsStamped}

-- ---- queues

-- the rank of a task that waits, without whether it was put in front
abbrev pub rank_left : Rank → Rank
rank_left Fifo = Fifo
rank_left Front = Fifo
rank_left (Vtime key) = Vtime key

-- where a task waits, without the order number of its push
abbrev pub unnumbered : Entry → Entry
unnumbered p = record { queue = p.queue; rank = rank_left p.rank; stamp = 0 }

-- the same, where the task of that number waits
abbrev pub place_in : QueueState → ℕ → Option Entry
place_in s t = option_map unnumbered (entry_of s t)

-- both tasks wait in one queue, and the first one leaves it before the second one
abbrev pub leads : Option Entry → Option Entry → Bool
leads None o = false
leads (Some p) None = false
leads (Some p) (Some q) = p.queue == q.queue && is_before p q

-- two states of the queues are the same but for order numbers
pub record AreAsQueues (s t : QueueState) : Type 0 where
  pub room : s.room ≡ t.room
  pub ids : s.ids ≡ t.ids
  pub tasks : length s.entries ≡ length t.entries
  pub places : (u : ℕ) → place_in s u ≡ place_in t u
  pub order : (u v : ℕ)
      → leads (entry_of s u) (entry_of s v) ≡ leads (entry_of t u) (entry_of t v)
  pub stamped : IsStamped s
  pub stamped_there : IsStamped t
