-- How many tasks there can be in a queue, and who can be behind one.
use Rattle.std.proofs.Common.{◌≡◌, ℕ, ◌≤◌, None}
use Rattle.std.proofs.lemmas.List.{get_or_past}
use Rattle.std.proofs.lemmas.List.Sums.{count_by-le-length}
use Rattle.scx_dsq.specs.Queues.{QueueState, task_count, is_in, len_of, behind_of}
use Rattle.scx_dsq.proofs.After.{none_after_none}

-- in a queue there are no more tasks than there are
pub few_in : (s : QueueState) (id : ℕ) → len_of s id ≤ task_count s
few_in s id = count_by-le-length (is_in id) s.entries

-- behind a task that there isn't is nobody
pub nobody_past : (s : QueueState) (t : ℕ) → task_count s ≤ t → behind_of s t ≡ None
nobody_past s t past = none_after_none s t (get_or_past s.entries t None past)
