-- Dispatch queues as sets (sched-ext.rst, "Dispatch Queues"). They are described by where each task
-- waits: a task has one entry or none, so it is in at most one queue. A queue is the set of the
-- tasks that wait in it, and its front is the one whose entry comes before every other there.
use Rattle.std.specs.Prelude.{◌≡◌, ◌≢◌, ℕ, zero, suc, ◌<◌, Bool, false, ◌==◌, ◌&&◌, not, if◌then◌else◌, List, [], ◌∷◌, length, slice_index_or, Option, Some, None, IsTrue, HoldsAt, count_by, position, option_map}
use Rattle.std.specs.List.{list_any, list_all}
use Rattle.scx_dsq.specs.declared.entries.Rank.{Rank}
use Rattle.scx_dsq.specs.declared.entries.Rank.TheVariants.{Fifo, Front, Vtime}
use Rattle.scx_dsq.specs.declared.entries.Entry.{Entry}
use Rattle.scx_dsq.specs.Entries.{is_before}

-- where tasks wait: at a task's number its entry, or none
abbrev pub Entries : Type 0
Entries = List (Option Entry)

-- the state of the queues: which there are, and who waits where
pub record QueueState : Type 0 where
  pub room : ℕ  -- how many queues there may be
  pub ids : List ℕ  -- the queues that were created
  pub entries : Entries
  pub pushes : ℕ  -- how many pushes were accepted

-- how many tasks there are
abbrev pub task_count : QueueState → ℕ
task_count s = length s.entries

-- whether a queue of that id was created
abbrev pub exists : QueueState → ℕ → Bool
exists s id = list_any (λ other. other == id) s.ids

-- the queue of that id is at that place, in the order in which they were created
abbrev pub IsQueueAt : QueueState → ℕ → ℕ → Type 0
IsQueueAt s k id = (k < length s.ids) × HoldsAt (λ other. other ≡ id) s.ids k

-- where a task waits
abbrev pub entry_at : Entries → ℕ → Option Entry
entry_at entries t = slice_index_or entries t None

-- where a task waits; none where it waits nowhere
abbrev pub entry_of : QueueState → ℕ → Option Entry
entry_of s t = entry_at s.entries t

-- the queue in which a task waits
abbrev pub queue_of : QueueState → ℕ → Option ℕ
queue_of s t = option_map (λ p. p.queue) (entry_of s t)

-- the task waits in the queue, by that entry
abbrev pub Waits : QueueState → ℕ → ℕ → Entry → Type 0
Waits s id t p = (entry_of s t ≡ Some p) × (p.queue ≡ id)

-- the task waits in the queue, and before every other task there
pub record IsFront (s : QueueState) (id t : ℕ) : Type 0 where
  pub entry : Entry
  pub waits : Waits s id t entry
  pub first : (u : ℕ) (other : Entry) → u ≢ t → Waits s id u other → IsTrue (is_before entry other)

-- whether an entry is one in the queue
abbrev pub is_in : ℕ → Option Entry → Bool
is_in id None = false
is_in id (Some p) = p.queue == id

-- how many tasks wait in the queue
abbrev pub len_of : QueueState → ℕ → ℕ
len_of s id = count_by (is_in id) s.entries

-- whether an entry is one in the queue that comes before the other
abbrev pub is_ahead : ℕ → Entry → Option Entry → Bool
is_ahead id p None = false
is_ahead id p (Some q) = q.queue == id && is_before q p

-- whether an entry is one in the queue, with none there before it
abbrev pub is_first : Entries → ℕ → Option Entry → Bool
is_first entries id None = false
is_first entries id (Some p) =
    p.queue == id && list_all (λ other. not (is_ahead id p other)) entries

-- the front of a queue; `IsFront` says what it is
unfoldable pub front_of : QueueState → ℕ → Option ℕ
front_of s id = position (is_first s.entries id) s.entries

-- the entries of those tasks alone; the first entry is that of the task of this number
abbrev pub entries_of : (ℕ → Bool) → ℕ → Entries → Entries
entries_of p n [] = []
entries_of p n (e ∷ entries) = (if p n then e else None) ∷ entries_of p (suc n) entries

-- the queues as if those tasks alone waited
abbrev pub only : (ℕ → Bool) → QueueState → QueueState
only p s = record s { entries = entries_of p 0 s.entries }

-- whether an entry is one in the same queue that comes after it
abbrev pub is_behind : Entry → Option Entry → Bool
is_behind p None = false
is_behind p (Some q) = q.queue == p.queue && is_before p q

-- whether an entry is the first of those
abbrev pub is_right_behind : Entries → Entry → Option Entry → Bool
is_right_behind entries p None = false
is_right_behind entries p (Some q) =
    is_behind p (Some q)
    && list_all (λ other. not (is_behind p other && is_ahead p.queue q other)) entries

-- which task has that one; none is looked for after an entry by virtual time
abbrev pub next_by : Rank → Entries → Entry → Option ℕ
next_by Fifo entries p = position (is_right_behind entries p) entries
next_by Front entries p = position (is_right_behind entries p) entries
next_by (Vtime key) entries p = None

-- the task that is next after an entry in order of arrival in its queue; none after no entry
abbrev pub right_behind : Entries → Option Entry → Option ℕ
right_behind entries None = None
right_behind entries (Some p) = next_by p.rank entries p

-- the task that is next after this one in its queue, if that is one in order of arrival
unfoldable pub behind_of : QueueState → ℕ → Option ℕ
behind_of s t = right_behind s.entries (entry_of s t)
