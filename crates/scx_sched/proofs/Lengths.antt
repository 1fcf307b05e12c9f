-- A push takes nobody out of a queue.
use Rattle.std.proofs.Common.{◌≡◌, ℕ, ◌+◌, ◌<◌, ◌≤◌, ◌⊎◌, inl, inr, if◌then◌else◌, length, set, Option, Some, None, is_none, refl, arith, count_by}
use Rattle.std.proofs.lemmas.Bool.{cases_lt}
use Rattle.std.proofs.lemmas.List.{set_past}
use Rattle.std.proofs.lemmas.List.Sums.{sum_by-set}
use Rattle.scx_dsq.specs.declared.entries.Entry.{Entry}
use Rattle.scx_dsq.specs.declared.entries.Rank.{Rank}
use Rattle.scx_dsq.specs.Queues.{QueueState, entry_of, is_in, len_of}
use Rattle.scx_dsq.specs.Calls.{push_refusal, next_entry, with_task, after_push}
use Rattle.scx_dsq.specs.Laws.{one_if}
use Rattle.scx_dsq.proofs.Facts.{free_from}

-- the length of a queue, where one entry is changed
pub len_set : (s : QueueState) (id t : ℕ) (o : Option Entry) → t < length s.entries → count_by (is_in id) (set s.entries t o) + one_if (is_in id (entry_of s t)) ≡ len_of s id + one_if (is_in id o)
len_set s id t o l = sum_by-set (λ x. one_if (is_in id x)) s.entries t o None l

-- a push takes nobody out
pub len_pushed : (s : QueueState) (q id t : ℕ) (r : Rank) → len_of s id ≤ len_of (after_push s q t r) id
len_pushed s q id t r = go (push_refusal s q t r) refl
  where
    go : (o : Option _) → push_refusal s q t r ≡ o → len_of s id ≤ len_of (if is_none o then with_task s q t r else s) id
    go (Some e) x = omega arith
    go None x = at (cases_lt t (length s.entries))
      where
        free : one_if (is_in id (entry_of s t)) ≡ 0
        free = rw (free_from s q t r x) refl

        at : (t < length s.entries) ⊎ (length s.entries ≤ t) → len_of s id ≤ count_by (is_in id) (set s.entries t (Some (next_entry s q r)))
        at (inl l) = omega (arith, len_set s id t (Some (next_entry s q r)) l, free)
        at (inr past) = rw (set_past s.entries t (Some (next_entry s q r)) past) (omega arith)
