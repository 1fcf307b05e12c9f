-- A queue in which somebody waits has a front.
use Rattle.std.proofs.Common.{◌≡◌, ℕ, zero, suc, ◌+◌, ◌<◌, ◌≤◌, Bool, true, false, ◌==◌, ◌&&◌, not, ◌⊎◌, inl, inr, cond, [], ◌∷◌, length, get_or, Option, Some, None, refl, sym, ap, ◌∙◌, subst, arith, count_by}
use Rattle.std.specs.List.{list_all, position_or_len}
use Rattle.std.proofs.lemmas.Bool.{cases_lt, lt-ltb}
use Rattle.std.proofs.lemmas.List.{get_or_default}
use Rattle.std.proofs.lemmas.List.Sums.{sum_by-cons, fails_before_first, list_all-from_AllPass}
use Rattle.scx_dsq.specs.declared.entries.Entry.{Entry}
use Rattle.scx_dsq.specs.Entries.{is_before}
use Rattle.scx_dsq.specs.Queues.{Entries, QueueState, is_in, is_ahead, is_first, len_of, front_of}
use Rattle.scx_dsq.specs.Laws.{one_if}
use Rattle.scx_dsq.proofs.Orders.{before-asym, before-trans}

-- an entry in the queue, before which none of the list comes
record IsBest (id : ℕ) (xs : Entries) (p : Entry) : Type 0 where
  at : ℕ
  within : at < length xs
  here : get_or xs at None ≡ Some p
  inside : (p.queue == id) ≡ true
  first : (k : ℕ) → k < length xs → is_ahead id p (get_or xs k None) ≡ false

not_itself : (q : Entry) → is_before q q ≡ false
not_itself q = go (is_before q q) refl
  where
    go : (b : Bool) → is_before q q ≡ b → is_before q q ≡ false
    go true e = before-asym q q e
    go false e = e

count_cons : (id : ℕ) (x : Option Entry) (xs : Entries) → count_by (is_in id) (x ∷ xs) ≡ one_if (is_in id x) + count_by (is_in id) xs
count_cons id x xs = sum_by-cons (λ o. one_if (is_in id o)) x xs

not_in : (id : ℕ) (xs : Entries) → count_by (is_in id) xs ≡ 0 → (k : ℕ) → k < length xs → is_in id (get_or xs k None) ≡ false
not_in id [] e k l = absurd (omega (arith, l))
not_in id (x ∷ xs) e zero l = go (is_in id x) refl
  where
    go : (b : Bool) → is_in id x ≡ b → is_in id x ≡ false
    go true y = absurd (omega (arith, count_cons id x xs, e, ap one_if y))
    go false y = y
not_in id (x ∷ xs) e (suc k) l = not_in id xs (omega (arith, count_cons id x xs, e)) k (omega (arith, l))

-- an entry that isn't in the queue is ahead of none there
pub out_is_not_ahead : (id : ℕ) (p : Entry) (o : Option Entry) → is_in id o ≡ false → is_ahead id p o ≡ false
out_is_not_ahead id p None e = refl
out_is_not_ahead id p (Some q) e = rw e refl

-- one more in front that doesn't come before the best
later : (id : ℕ) (x : Option Entry) (xs : Entries) (p : Entry) → is_ahead id p x ≡ false → IsBest id xs p → IsBest id (x ∷ xs) p
later id x xs p out b = record { at = suc b.at; within = omega (arith, b.within); here = b.here; inside = b.inside; first = all }
  where
    all : (k : ℕ) → k < length (x ∷ xs) → is_ahead id p (get_or (x ∷ xs) k None) ≡ false
    all zero l = out
    all (suc k) l = b.first k (omega (arith, l))

-- one more in front that comes before all others
earlier : (id : ℕ) (q : Entry) (xs : Entries) → (q.queue == id) ≡ true → ((k : ℕ) → k < length xs → is_ahead id q (get_or xs k None) ≡ false) → IsBest id (Some q ∷ xs) q
earlier id q xs inside rest = record { at = 0; within = omega arith; here = refl; inside = inside; first = all }
  where
    all : (k : ℕ) → k < length (Some q ∷ xs) → is_ahead id q (get_or (Some q ∷ xs) k None) ≡ false
    all zero l = rw (inside, not_itself q) refl
    all (suc k) l = rest k (omega (arith, l))

-- who comes before the first of two comes before the second
not_ahead_of_both : (id : ℕ) (p q : Entry) (o : Option Entry) → is_before q p ≡ true → is_ahead id p o ≡ false → is_ahead id q o ≡ false
not_ahead_of_both id p q None e out = refl
not_ahead_of_both id p q (Some r) e out = go (r.queue == id) (is_before r q) refl refl
  where
    go : (a b : Bool) → (r.queue == id) ≡ a → is_before r q ≡ b → ((r.queue == id) && is_before r q) ≡ false
    go false b x y = rw x refl
    go true false x y = rw (x, y) refl
    go true true x y =
        let ahead : is_ahead id p (Some r) ≡ true = rw (x, before-trans r q p y e) refl in
        let bad : true ≡ false = sym ahead ∙ out in absurd (cc)

best_with : (id : ℕ) (x : Option Entry) (xs : Entries) → (count_by (is_in id) xs ≡ 0) ⊎ ((p : Entry) × IsBest id xs p) → (count_by (is_in id) (x ∷ xs) ≡ 0) ⊎ ((p : Entry) × IsBest id (x ∷ xs) p)
best_with id None xs (inl none) = inl (omega (arith, count_cons id None xs, none))
best_with id None xs (inr (p, b)) = inr (p, later id None xs p refl b)
best_with id (Some q) xs r = go (q.queue == id) refl r
  where
    go : (a : Bool) → (q.queue == id) ≡ a → (count_by (is_in id) xs ≡ 0) ⊎ ((p : Entry) × IsBest id xs p) → (count_by (is_in id) (Some q ∷ xs) ≡ 0) ⊎ ((p : Entry) × IsBest id (Some q ∷ xs) p)
    go false e (inl none) = inl (omega (arith, count_cons id (Some q) xs, none, ap one_if e))
    go false e (inr (p, b)) = inr (p, later id (Some q) xs p (rw e refl) b)
    go true e (inl none) = inr (q, earlier id q xs e (λ k l. out_is_not_ahead id q (get_or xs k None) (not_in id xs none k l)))
    go true e (inr (p, b)) = choose (is_before q p) refl
      where
        choose : (c : Bool) → is_before q p ≡ c → (count_by (is_in id) (Some q ∷ xs) ≡ 0) ⊎ ((p : Entry) × IsBest id (Some q ∷ xs) p)
        choose true y = inr (q, earlier id q xs e (λ k l. not_ahead_of_both id p q (get_or xs k None) y (b.first k l)))
        choose false y = inr (p, later id (Some q) xs p (rw (e, y) refl) b)

best : (id : ℕ) (xs : Entries) → (count_by (is_in id) xs ≡ 0) ⊎ ((p : Entry) × IsBest id xs p)
best id [] = inl refl
best id (x ∷ xs) = best_with id x xs (best id xs)

-- a queue without a front is empty
pub no_front_is_empty : (s : QueueState) (id : ℕ) → front_of s id ≡ None → len_of s id ≡ 0
unfolding front_of
no_front_is_empty s id e = go (best id s.entries)
  where
    none_at : (k : ℕ) → k < length s.entries → is_first s.entries id (get_or s.entries k None) ≡ false
    none_at k l = fails_before_first (is_first s.entries id) s.entries k None (omega (arith, l, past (cases_lt (position_or_len (is_first s.entries id) s.entries) (length s.entries))))
      where
        past : (position_or_len (is_first s.entries id) s.entries < length s.entries) ⊎ (length s.entries ≤ position_or_len (is_first s.entries id) s.entries) → length s.entries ≤ position_or_len (is_first s.entries id) s.entries
        past (inl l) = absurd (some (subst (λ b. cond b (Some (position_or_len (is_first s.entries id) s.entries)) None ≡ None) (lt-ltb (position_or_len (is_first s.entries id) s.entries) (length s.entries) l) e))
          where
            some : Some (position_or_len (is_first s.entries id) s.entries) ≡ None → ⊥
            some x = absurd (cc)
        past (inr l) = l

    go : (count_by (is_in id) s.entries ≡ 0) ⊎ ((p : Entry) × IsBest id s.entries p) → len_of s id ≡ 0
    go (inl none) = none
    go (inr (p, b)) =
        let all : list_all (λ o. not (is_ahead id p o)) s.entries ≡ true = list_all-from_AllPass (λ o. not (is_ahead id p o)) s.entries (λ k d l. rw (get_or_same k d l, b.first k l) refl) in
        let yes : is_first s.entries id (get_or s.entries b.at None) ≡ true = rw (b.here, b.inside, all) refl in
        let bad : true ≡ false = sym yes ∙ none_at b.at b.within in absurd (cc)
      where
        get_or_same : (k : ℕ) (d : Option Entry) → k < length s.entries → get_or s.entries k d ≡ get_or s.entries k None
        get_or_same k d l = get_or_default s.entries k d None l
