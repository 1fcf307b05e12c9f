-- The front of a queue, and a queue in which nobody waits.
use Rattle.std.proofs.Common.{◌≡◌, ◌≢◌, ℕ, suc, ◌+◌, ◌<◌, Bool, true, false, ◌==◌, not, List, [], ◌∷◌, length, get_or, count_by, Option, Some, None, cond, refl, sym, ◌∙◌, subst, arith, ◌⊎◌, inl, inr}
use Rattle.std.specs.List.{list_any, list_all}
use Rattle.std.proofs.lemmas.Bool.{both_ways, eq-eqb, eqb-true, and_from, and_parts, cases_eq, cases_Bool, false_from_ne_true}
use Rattle.std.proofs.lemmas.List.{get_or_default}
use Rattle.std.proofs.lemmas.List.Sums.{list_all-from_AllPass, sum_by-cons}
use Rattle.std.proofs.lemmas.List.Folds.{list_all_at, list_any_none}
use Rattle.scx_dsq.specs.declared.entries.Rank.{Rank}
use Rattle.scx_dsq.specs.declared.entries.Entry.{Entry}
use Rattle.scx_dsq.specs.Entries.{is_before}
use Rattle.scx_dsq.specs.Queues.{QueueState, entry_at, is_in, Waits, IsFront, is_ahead, is_first, front_of, len_of}
use Rattle.scx_dsq.specs.Calls.{clashes}
use Rattle.scx_dsq.proofs.Orders.{before-asym}
use Rattle.scx_dsq.proofs.Positions.{position_is, no_position}
use Rattle.scx_dsq.proofs.Standing.{waits_below, same_entry}

-- nobody waits in the queue
abbrev pub NobodyIn : QueueState → ℕ → Type 0
NobodyIn s id = (t : ℕ) (p : Entry) → Waits s id t p → ⊥

-- ---- the front as it is computed

behind_front : (s : QueueState) (id t : ℕ) (f : IsFront s id t) (k : ℕ) (o : Option Entry) → entry_at s.entries k ≡ o → is_ahead id f.entry o ≡ false
behind_front s id t f k None e = refl
behind_front s id t f k (Some q) e = false_from_ne_true _ (λ h. let parts = and_parts (q.queue == id) (is_before q f.entry) h in go (cases_eq k t) (eqb-true q.queue id parts.0) parts.1)
  where
    go : (k ≡ t) ⊎ (k ≡ t → ⊥) → q.queue ≡ id → is_before q f.entry ≡ true → ⊥
    go (inl same) here h =
        let one : f.entry ≡ q = same_entry s.entries t f.entry q f.waits.0 (subst (λ v. entry_at s.entries v ≡ Some q) same e) in
        let itself : is_before q q ≡ true = subst (λ v. is_before q v ≡ true) one h in
        both_ways (is_before q q) (before-asym q q itself) itself
    go (inr n) here h =
        both_ways (is_before q f.entry) (before-asym f.entry q (f.first k q n (e, here))) h

not_first : (s : QueueState) (id t : ℕ) (f : IsFront s id t) (k : ℕ) (o : Option Entry) → k ≢ t → entry_at s.entries k ≡ o → is_first s.entries id o ≡ false
not_first s id t f k None n e = refl
not_first s id t f k (Some q) n e = go (cases_Bool (q.queue == id))
  where
    go : ((q.queue == id) ≡ true) ⊎ ((q.queue == id) ≡ false) → is_first s.entries id (Some q) ≡ false
    go (inr out) = rw out refl
    go (inl here) =
        let before : is_before f.entry q ≡ true = f.first k q n (e, eqb-true q.queue id here) in
        let ahead : is_ahead id q (entry_at s.entries t) ≡ true = rw (f.waits.0, eq-eqb f.entry.queue id f.waits.1, before) refl in
        let all : list_all (λ o. not (is_ahead id q o)) s.entries ≡ false =
        list_all_at (λ o. not (is_ahead id q o)) s.entries t None (waits_below s.entries t f.entry f.waits.0) (rw ahead refl) in
        rw (here, all) refl

-- the front is the one that is computed
pub front_is : (s : QueueState) (id t : ℕ) → IsFront s id t → front_of s id ≡ Some t
unfolding front_of
front_is s id t f =
    position_is (is_first s.entries id) s.entries t None (waits_below s.entries t f.entry f.waits.0) passes (λ k n. not_first s id t f k (entry_at s.entries k) n refl)
  where
    passes : is_first s.entries id (entry_at s.entries t) ≡ true
    passes =
        rw f.waits.0 (and_from (f.entry.queue == id) _ (eq-eqb f.entry.queue id f.waits.1)
        (list_all-from_AllPass (λ o. not (is_ahead id f.entry o)) s.entries (λ k d lt. rw (behind_front s id t f k (get_or s.entries k d) (get_or_default s.entries k None d lt)) refl)))

-- where nobody waits no front is computed
pub no_front : (s : QueueState) (id : ℕ) → NobodyIn s id → front_of s id ≡ None
unfolding front_of
no_front s id nobody = no_position (is_first s.entries id) s.entries (λ k d lt. go k (get_or s.entries k d) (get_or_default s.entries k None d lt))
  where
    go : (k : ℕ) (o : Option Entry) → entry_at s.entries k ≡ o → is_first s.entries id o ≡ false
    go k None e = refl
    go k (Some q) e = false_from_ne_true _ (λ h. nobody k q (e, eqb-true q.queue id (and_parts (q.queue == id) _ h).0))

-- a queue has one front
pub front_once : (s : QueueState) (id t u : ℕ) → IsFront s id t → IsFront s id u → t ≡ u
front_once s id t u f g = go (cases_eq t u)
  where
    go : (t ≡ u) ⊎ (t ≡ u → ⊥) → t ≡ u
    go (inl same) = same
    go (inr n) =
        let a : is_before f.entry g.entry ≡ true = f.first u g.entry (λ e. n (sym e)) g.waits in
        let b : is_before g.entry f.entry ≡ true = g.first t f.entry n f.waits in
        absurd (both_ways (is_before g.entry f.entry) (before-asym f.entry g.entry a) b)

-- ---- counting

count_none : {X : Type 0} (p : X → Bool) (xs : List X) → ((k : ℕ) (d : X) → k < length xs → p (get_or xs k d) ≡ false) → count_by p xs ≡ 0
count_none p [] out = refl
count_none p (x ∷ xs) out =
    let here : p x ≡ false = out 0 x (omega arith) in
    let rest = count_none p xs (λ k d lt. out (suc k) d (omega arith)) in
    let e : count_by p (x ∷ xs) ≡ cond (p x) 1 0 + count_by p xs = sum_by-cons (λ y. cond (p y) 1 0) x xs in
    e ∙ rw (here, rest) refl

-- where nobody waits the length is 0
pub nobody_counts : (s : QueueState) (id : ℕ) → NobodyIn s id → len_of s id ≡ 0
nobody_counts s id nobody = count_none (is_in id) s.entries (λ k d lt. go k (get_or s.entries k d) (get_or_default s.entries k None d lt))
  where
    go : (k : ℕ) (o : Option Entry) → entry_at s.entries k ≡ o → is_in id o ≡ false
    go k None e = refl
    go k (Some q) e = false_from_ne_true _ (λ h. nobody k q (e, eqb-true q.queue id h))

-- ---- sorts

-- where nobody waits nothing clashes
pub nobody_clashes : (s : QueueState) (id : ℕ) (rank : Rank) → NobodyIn s id → list_any (clashes id rank) s.entries ≡ false
nobody_clashes s id rank nobody =
    list_any_none (clashes id rank) s.entries (λ k d lt. go k (get_or s.entries k d) (get_or_default s.entries k None d lt))
  where
    go : (k : ℕ) (o : Option Entry) → entry_at s.entries k ≡ o → clashes id rank o ≡ false
    go k None e = refl
    go k (Some q) e = false_from_ne_true _ (λ c. nobody k q (e, eqb-true q.queue id (and_parts (q.queue == id) _ c).0))
