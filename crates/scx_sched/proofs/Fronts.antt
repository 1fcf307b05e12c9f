-- The front of a queue stays where other queues change, and where a task comes behind it.
use Rattle.std.proofs.Common.{◌≡◌, ℕ, suc, ◌+◌, ◌<◌, ◌≤◌, Bool, true, false, ◌==◌, ◌&&◌, not, ◌⊎◌, inl, inr, cond, [], ◌∷◌, length, set, get_or, Option, Some, None, is_none, option_map, refl, sym, ap, ◌∙◌, subst, arith, is_some}
use Rattle.std.specs.List.{list_all, position, position_or_len}
use Rattle.std.proofs.lemmas.Bool.{cases_eq, cases_lt, lt-ltb, and_parts, and_from, both_ways, false_from_ne_true}
use Rattle.std.proofs.lemmas.List.{get_or_default, length-set, get_or-set_same, get_or-set_other, set_past}
use Rattle.std.proofs.lemmas.List.Folds.{list_all_at}
use Rattle.std.proofs.lemmas.List.Quantifiers.{position-Some}
use Rattle.std.proofs.lemmas.List.Sums.{position_or_len_is, fails_before_first, passes_at_first, list_all-from_AllPass, AllPass-from_list_all}
use Rattle.scx_dsq.specs.declared.entries.Entry.{Entry}
use Rattle.scx_dsq.specs.declared.entries.Rank.{Rank}
use Rattle.scx_dsq.specs.Entries.{is_before}
use Rattle.scx_dsq.specs.Queues.{Entries, entry_at, QueueState, entry_of, is_in, is_ahead, is_first, front_of, queue_of}
use Rattle.scx_dsq.specs.Calls.{push_refusal, next_entry, with_task as with_place, after_push, without_task, after_remove}
use Rattle.scx_dsq.proofs.Facts.{free_from}
use Rattle.scx_dsq.proofs.Orders.{before-asym}
use Rattle.scx_sched.proofs.Firsts.{out_is_not_ahead}
use Rattle.scx_sched_machine.proofs.Choices.{keeps_if}

same_some : (a b : Entry) → Some a ≡ Some b → a ≡ b
same_some a b e = cc

same_queue : (a b : ℕ) → Some a ≡ Some b → a ≡ b
same_queue a b e = cc

not_true : (b : Bool) → not b ≡ true → b ≡ false
not_true true e = absurd (cc)
not_true false e = refl

and_no : (b : Bool) → (b && false) ≡ false
and_no true = refl
and_no false = refl

one_more-le : (p : Option Entry → Bool) (x : Option Entry) (xs : Entries) → position_or_len p xs ≤ length xs → position_or_len p (x ∷ xs) ≤ length (x ∷ xs)
one_more-le p x xs rest = go (p x) refl
  where
    at : (b : Bool) → p x ≡ b → position_or_len p (x ∷ xs) ≡ cond (not b) (1 + position_or_len p xs) 0
    at b e = ap (λ t. cond (not t) (1 + position_or_len p xs) 0) e

    go : (b : Bool) → p x ≡ b → position_or_len p (x ∷ xs) ≤ length (x ∷ xs)
    go true e = let none = at true e in omega (arith, none)
    go false e = let more = at false e in omega (arith, more, rest)

position_or_len-le : (p : Option Entry → Bool) (xs : Entries) → position_or_len p xs ≤ length xs
position_or_len-le p [] = omega arith
position_or_len-le p (x ∷ xs) = one_more-le p x xs (position_or_len-le p xs)

-- ---- a queue that other changes leave as it is

-- in a queue the same, or in it neither before nor after
pub data AreSame (id : ℕ) (o o' : Option Entry) : Type 0 where
  Equal : o' ≡ o → AreSame id o o'
  Outside : is_in id o ≡ false → is_in id o' ≡ false → AreSame id o o'

-- the same tasks are in the queue, by the same entries
pub record IsSameIn (id : ℕ) (s s' : QueueState) : Type 0 where
  pub count : length s'.entries ≡ length s.entries
  pub same : (k : ℕ) → AreSame id (entry_of s k) (entry_of s' k)

ahead_same : (id : ℕ) (p : Entry) (o o' : Option Entry) → AreSame id o o' → is_ahead id p o' ≡ is_ahead id p o
ahead_same id p o o' (Equal e) = ap (λ x. is_ahead id p x) e
ahead_same id p o o' (Outside before after) = out_is_not_ahead id p o' after ∙ sym (out_is_not_ahead id p o before)

all_same : (test : Option Entry → Bool) (xs ys : Entries) → length ys ≡ length xs → ((k : ℕ) → test (get_or ys k None) ≡ test (get_or xs k None)) → list_all test ys ≡ list_all test xs
all_same test [] [] e h = refl
all_same test [] (y ∷ ys) e h = absurd (omega (arith, e))
all_same test (x ∷ xs) [] e h = absurd (omega (arith, e))
all_same test (x ∷ xs) (y ∷ ys) e h = ap (λ b. b && list_all test ys) (h 0) ∙ ap (λ b. test x && b) (all_same test xs ys (omega (arith, e)) (λ k. h (suc k)))

out_is_not_first : (xs : Entries) (id : ℕ) (o : Option Entry) → is_in id o ≡ false → is_first xs id o ≡ false
out_is_not_first xs id None e = refl
out_is_not_first xs id (Some p) e = rw e refl

first_same : (s s' : QueueState) (id : ℕ) → IsSameIn id s s' → (o : Option Entry) → is_first s'.entries id o ≡ is_first s.entries id o
first_same s s' id h None = refl
first_same s s' id h (Some p) = ap (λ b. (p.queue == id) && b) (all_same (λ o. not (is_ahead id p o)) s.entries s'.entries h.count (λ k. ap (λ b. not b) (ahead_same id p (entry_of s k) (entry_of s' k) (h.same k))))

-- so it has the same front
pub front_same : (s s' : QueueState) (id : ℕ) → IsSameIn id s s' → front_of s' id ≡ front_of s id
unfolding front_of
front_same s s' id h = rw (at, h.count) refl
  where
    one : (k : ℕ) → AreSame id (entry_of s k) (entry_of s' k) → is_first s'.entries id (entry_of s' k) ≡ is_first s.entries id (entry_of s k)
    one k (Equal e) = first_same s s' id h (entry_of s' k) ∙ ap (λ o. is_first s.entries id o) e
    one k (Outside before after) = out_is_not_first s'.entries id (entry_of s' k) after ∙ sym (out_is_not_first s.entries id (entry_of s k) before)

    p : ℕ
    p = position_or_len (is_first s.entries id) s.entries

    at : position_or_len (is_first s'.entries id) s'.entries ≡ p
    at = position_or_len_is (is_first s'.entries id) s'.entries p None (omega (arith, h.count, position_or_len-le (is_first s.entries id) s.entries)) (λ k l. one k (h.same k) ∙ fails_before_first (is_first s.entries id) s.entries k None l) (λ l. one p (h.same p) ∙ passes_at_first (is_first s.entries id) s.entries None (omega (arith, l, h.count)))

-- ---- which changes those are

-- where no entry has changed, the same tasks are in the queue
pub same_here : (id : ℕ) (s s' : QueueState) → s'.entries ≡ s.entries → IsSameIn id s s'
same_here id s s' e = record { count = ap length e; same = λ k. Equal (ap (λ xs. entry_at xs k) e) }

-- where two changes leave the same tasks in a queue, they do one after the other
pub same_then : (id : ℕ) (s s' s'' : QueueState) → IsSameIn id s s' → IsSameIn id s' s'' → IsSameIn id s s''
same_then id s s' s'' a b = record { count = b.count ∙ a.count; same = λ k. go k (a.same k) (b.same k) }
  where
    go : (k : ℕ) → AreSame id (entry_of s k) (entry_of s' k) → AreSame id (entry_of s' k) (entry_of s'' k) → AreSame id (entry_of s k) (entry_of s'' k)
    go k (Equal e) (Equal f) = Equal (f ∙ e)
    go k (Equal e) (Outside x y) = Outside (ap (λ o. is_in id o) (sym e) ∙ x) y
    go k (Outside x y) (Equal f) = Outside x (ap (λ o. is_in id o) f ∙ y)
    go k (Outside x y) (Outside v z) = Outside x z

-- one entry, in the queue neither before nor after
same_set : (id : ℕ) (s s' : QueueState) (t : ℕ) (o : Option Entry) → s'.entries ≡ set s.entries t o → is_in id (entry_of s t) ≡ false → is_in id o ≡ false → IsSameIn id s s'
same_set id s s' t o e before after = record { count = ap length e ∙ length-set s.entries t o; same = λ k. go k (cases_eq k t) (cases_lt t (length s.entries)) }
  where
    at : (k : ℕ) → entry_of s' k ≡ entry_at (set s.entries t o) k
    at k = ap (λ xs. entry_at xs k) e

    go : (k : ℕ) → (k ≡ t) ⊎ (k ≡ t → ⊥) → (t < length s.entries) ⊎ (length s.entries ≤ t) → AreSame id (entry_of s k) (entry_of s' k)
    go k (inl x) (inl l) =
        Outside (ap (λ j. is_in id (entry_of s j)) x ∙ before) (ap (λ p. is_in id p) (at k) ∙ ap (λ j. is_in id (entry_at (set s.entries t o) j)) x ∙ ap (λ p. is_in id p) (get_or-set_same {A = Option Entry} s.entries t o None l) ∙ after)
    go k (inl x) (inr past) = Equal (at k ∙ ap (λ xs. entry_at xs k) (set_past s.entries t o past))
    go k (inr d) l = Equal (at k ∙ get_or-set_other {A = Option Entry} s.entries t k o None d)

-- a push to another queue
pub same_pushed : (id : ℕ) (s : QueueState) (q t : ℕ) (r : Rank) → (q == id) ≡ false → IsSameIn id s (after_push s q t r)
same_pushed id s q t r apart = go (push_refusal s q t r) refl
  where
    go : (o : Option _) → push_refusal s q t r ≡ o → IsSameIn id s (cond (is_none o) (with_place s q t r) s)
    go None ok = same_set id s (with_place s q t r) t (Some (next_entry s q r)) refl (ap (λ o. is_in id o) (free_from s q t r ok)) apart
    go (Some f) x = same_here id s s refl

-- who isn't in it leaves
pub same_without : (id : ℕ) (s : QueueState) (t : ℕ) → is_in id (entry_of s t) ≡ false → IsSameIn id s (without_task s t)
same_without id s t out = same_set id s (without_task s t) t None refl out refl

-- a task of another queue
pub same_removed : (id : ℕ) (s : QueueState) (q t : ℕ) → (q == id) ≡ false → queue_of s t ≡ Some q → IsSameIn id s (after_remove s t)
same_removed id s q t apart here = keeps_if (λ (x : QueueState). IsSameIn id s x) (is_some (entry_of s t)) (without_task s t) s (same_without id s t (out (entry_of s t) here)) (same_here id s s refl)
  where
    out : (o : Option Entry) → option_map (λ p. p.queue) o ≡ Some q → is_in id o ≡ false
    out None e = refl
    out (Some p) e = ap (λ k. k == id) (same_queue p.queue q e) ∙ apart

-- ---- a push behind the front

-- an accepted push of another task
module _ (s : QueueState) (id q t u : ℕ) (r : Rank) (p : Entry) (front : front_of s id ≡ Some t) (is : entry_of s t ≡ Some p) (after : (q == id) ≡ true → is_before p (next_entry s q r) ≡ true)
    (ok : push_refusal s q u r ≡ None) (l : u < length s.entries) where
  abbrev s' : QueueState
  s' = with_place s q u r

  abbrev e : Entry
  e = next_entry s q r

  was : (t < length s.entries) × (is_first s.entries id (get_or s.entries t None) ≡ true) × ((k : ℕ) → k < t → is_first s.entries id (get_or s.entries k None) ≡ false)
  unfolding front_of
  was = position-Some (is_first s.entries id) s.entries t None front

  parts : ((p.queue == id) ≡ true) × (list_all (λ o. not (is_ahead id p o)) s.entries ≡ true)
  parts = and_parts (p.queue == id) _ (subst (λ o. is_first s.entries id o ≡ true) is was.1)

  -- the new entry isn't ahead of the front
  behind : is_ahead id p (Some e) ≡ false
  behind = at (q == id) refl
    where
      at : (b : Bool) → (q == id) ≡ b → (b && is_before e p) ≡ false
      at false x = refl
      at true x = before-asym p e (after x)

  free : entry_of s u ≡ None
  free = free_from s q u r ok

  others : (k : ℕ) → (k ≡ u → ⊥) → entry_of s' k ≡ entry_of s k
  others k d = get_or-set_other {A = Option Entry} s.entries u k (Some e) None d

  here : entry_of s' u ≡ Some e
  here = get_or-set_same {A = Option Entry} s.entries u (Some e) None l

  apart : t ≡ u → ⊥
  apart x = let bad : Some p ≡ None = sym is ∙ ap (λ k. entry_of s k) x ∙ free in absurd (cc)

  many : length s'.entries ≡ length s.entries
  many = length-set s.entries u (Some e)

  not_ahead : (k : ℕ) (d : Option Entry) → k < length s'.entries → (k ≡ u) ⊎ (k ≡ u → ⊥) → is_ahead id p (get_or s'.entries k d) ≡ false
  not_ahead k d m (inl x) = ap (λ o. is_ahead id p o) (get_or_default s'.entries k d None m ∙ ap (λ j. entry_of s' j) x ∙ here) ∙ behind
  not_ahead k d m (inr a) =
      ap (λ o. is_ahead id p o) (get_or_default s'.entries k d None m ∙ others k a) ∙ not_true (is_ahead id p (entry_of s k)) (AllPass-from_list_all (λ o. not (is_ahead id p o)) s.entries parts.1 k None (omega (arith, m, many)))

  -- the front is first still
  first : is_first s'.entries id (entry_of s' t) ≡ true
  first = rw (others t apart, is, parts.0) (list_all-from_AllPass (λ o. not (is_ahead id p o)) s'.entries (λ k d m. ap (λ b. not b) (not_ahead k d m (cases_eq k u))))

  -- and the new entry isn't
  new_is_not : is_first s'.entries id (Some e) ≡ false
  new_is_not = at (q == id) refl
    where
      at : (b : Bool) → (q == id) ≡ b → is_first s'.entries id (Some e) ≡ false
      at false x = rw x refl
      at true x =
          let there : is_ahead id e (entry_of s' t) ≡ true = rw (others t apart, is, parts.0, after x) refl in
          let all : list_all (λ i. not (is_ahead id e i)) s'.entries ≡ false = list_all_at (λ i. not (is_ahead id e i)) s'.entries t None (omega (arith, was.0, many)) (rw there refl) in
          rw all (and_no (q == id))

  passed : (o : Entry) → list_all (λ i. not (is_ahead id o i)) s'.entries ≡ true → (j : ℕ) (d : Option Entry) → j < length s.entries → (j ≡ u) ⊎ (j ≡ u → ⊥) → not (is_ahead id o (get_or s.entries j d)) ≡ true
  passed o all j d v (inl a) = ap (λ i. not (is_ahead id o i)) (get_or_default s.entries j d None v ∙ ap (λ i. entry_of s i) a ∙ free)
  passed o all j d v (inr a) =
      ap (λ i. not (is_ahead id o i)) (get_or_default s.entries j d None v ∙ sym (others j a)) ∙ AllPass-from_list_all (λ i. not (is_ahead id o i)) s'.entries all j None (omega (arith, v, many))

  -- an entry that wasn't first isn't
  others_are_not : (o : Option Entry) → is_first s.entries id o ≡ false → is_first s'.entries id o ≡ false
  others_are_not None y = refl
  others_are_not (Some o) y = false_from_ne_true (is_first s'.entries id (Some o)) (λ z. both_ways (is_first s.entries id (Some o)) y (still (and_parts (o.queue == id) (list_all (λ i. not (is_ahead id o i)) s'.entries) z)))
    where
      still : ((o.queue == id) ≡ true) × (list_all (λ i. not (is_ahead id o i)) s'.entries ≡ true) → is_first s.entries id (Some o) ≡ true
      still x = and_from (o.queue == id) _ x.0 (list_all-from_AllPass (λ i. not (is_ahead id o i)) s.entries (λ j d v. passed o x.1 j d v (cases_eq j u)))

  -- nobody before it is
  before : (k : ℕ) → k < t → is_first s'.entries id (entry_of s' k) ≡ false
  before k m = at (cases_eq k u)
    where
      at : (k ≡ u) ⊎ (k ≡ u → ⊥) → is_first s'.entries id (entry_of s' k) ≡ false
      at (inl x) = ap (λ o. is_first s'.entries id o) (ap (λ j. entry_of s' j) x ∙ here) ∙ new_is_not
      at (inr a) = others_are_not (entry_of s' k) (ap (λ o. is_first s.entries id o) (others k a) ∙ was.2 k m)

  found : position (is_first s'.entries id) s'.entries ≡ Some t
  found =
      let i : position_or_len (is_first s'.entries id) s'.entries ≡ t = position_or_len_is (is_first s'.entries id) s'.entries t None (omega (arith, was.0, many)) (λ k m. before k m) (λ m. first) in
      rw (i, lt-ltb t (length s'.entries) (omega (arith, was.0, many))) refl

-- it leaves the front that is there, if the new entry comes after that
pub front_pushed : (s : QueueState) (id q t u : ℕ) (r : Rank) (p : Entry) → front_of s id ≡ Some t → entry_of s t ≡ Some p → ((q == id) ≡ true → is_before p (next_entry s q r) ≡ true) → front_of (after_push s q u r) id ≡ Some t
unfolding front_of
front_pushed s id q t u r p front is after = go (push_refusal s q u r) refl
  where
    new : QueueState
    new = with_place s q u r

    at : push_refusal s q u r ≡ None → (u < length s.entries) ⊎ (length s.entries ≤ u) → position (is_first new.entries id) new.entries ≡ Some t
    at ok (inl l) = found s id q t u r p front is after ok l
    at ok (inr past) = ap (λ xs. position (is_first xs id) xs) (set_past s.entries u (Some (next_entry s q r)) past) ∙ front

    go : (o : Option _) → push_refusal s q u r ≡ o → position (is_first (cond (is_none o) new s).entries id) (cond (is_none o) new s).entries ≡ Some t
    go (Some f) x = front
    go None ok = at ok (cases_lt u (length s.entries))
