-- Where tasks wait after one task's entry has changed.
use Rattle.std.proofs.Common.{◌≡◌, ◌≢◌, ℕ, ◌+◌, ◌<◌, ◌≤◌, true, false, ◌⊎◌, inl, inr, cond, length, set, count_by, Option, Some, None, sym, ◌∙◌, subst, arith}
use Rattle.std.proofs.lemmas.Bool.{cases_lt, cases_eq, both_ways, eq-eqb}
use Rattle.std.proofs.lemmas.List.{get_or-set_same, get_or-set_other, get_or_past, set_past}
use Rattle.std.proofs.lemmas.List.Sums.{sum_by-set}
use Rattle.scx_dsq.specs.declared.entries.Entry.{Entry}
use Rattle.scx_dsq.specs.Queues.{Entries, entry_at, is_in}

-- who waits is a task that there is
pub waits_below : (entries : Entries) (t : ℕ) (p : Entry) → entry_at entries t ≡ Some p → t < length entries
waits_below entries t p e = go (cases_lt t (length entries))
  where
    go : (t < length entries) ⊎ (length entries ≤ t) → t < length entries
    go (inl within) = within
    go (inr past) = let none : entry_at entries t ≡ None = get_or_past entries t None past in absurd (cc)

-- a task has one entry
pub same_entry : (entries : Entries) (t : ℕ) (p q : Entry) → entry_at entries t ≡ Some p → entry_at entries t ≡ Some q → p ≡ q
same_entry entries t p q e f = cc

-- an entry of that queue is one in it
pub is_in_from : (id : ℕ) (p : Entry) → p.queue ≡ id → is_in id (Some p) ≡ true
is_in_from id p e = eq-eqb p.queue id e

-- who waits in the queue isn't one who doesn't
pub another : (entries : Entries) (id t u : ℕ) (p : Entry) → is_in id (entry_at entries t) ≡ false → entry_at entries u ≡ Some p → p.queue ≡ id → u ≢ t
another entries id t u p out e q same =
    let here : entry_at entries t ≡ Some p = subst (λ v. entry_at entries v ≡ Some p) same e in
    both_ways (is_in id (entry_at entries t)) out (subst (λ v. is_in id v ≡ true) (sym here) (is_in_from id p q))

-- one entry more or less in the queue
pub count-set : (entries : Entries) (id t : ℕ) (new : Option Entry) → t < length entries
    → count_by (is_in id) (set entries t new) + cond (is_in id (entry_at entries t)) 1 0 ≡ count_by (is_in id) entries + cond (is_in id new) 1 0
count-set entries id t new within = sum_by-set (λ o. cond (is_in id o) 1 0) entries t new None within

-- an entry after the change is the new one, or one of another task as before
pub data Changed (entries : Entries) (t : ℕ) (new : Option Entry) (u : ℕ) (p : Entry) : Type 0 where
  this : u ≡ t → new ≡ Some p → Changed entries t new u p
  other : u ≢ t → entry_at entries u ≡ Some p → Changed entries t new u p

-- each entry after the change is one of the two
pub changed : (entries : Entries) (t : ℕ) (new : Option Entry) (u : ℕ) (p : Entry) → entry_at (set entries t new) u ≡ Some p → Changed entries t new u p
changed entries t new u p e = go (cases_eq u t) (cases_lt t (length entries))
  where
    go : (u ≡ t) ⊎ (u ≡ t → ⊥) → (t < length entries) ⊎ (length entries ≤ t) → Changed entries t new u p
    go (inl same) (inl within) =
        let here : entry_at (set entries t new) t ≡ Some p = subst (λ v. entry_at (set entries t new) v ≡ Some p) same e in
        this same (sym (get_or-set_same entries t new None within) ∙ here)
    go (inl same) (inr past) =
        let here : entry_at (set entries t new) t ≡ Some p = subst (λ v. entry_at (set entries t new) v ≡ Some p) same e in
        let stays : set entries t new ≡ entries = set_past entries t new past in
        let there : entry_at entries t ≡ Some p = subst (λ v. entry_at v t ≡ Some p) stays here in
        let below : t < length entries = waits_below entries t p there in
        absurd (omega arith)
    go (inr n) w = other n (sym (get_or-set_other entries t u new None n) ∙ e)

-- an entry of another task is as before
pub unchanged : (entries : Entries) (t : ℕ) (new : Option Entry) (u : ℕ) (p : Entry) → u ≢ t → entry_at entries u ≡ Some p → entry_at (set entries t new) u ≡ Some p
unchanged entries t new u p n e = get_or-set_other entries t u new None n ∙ e
