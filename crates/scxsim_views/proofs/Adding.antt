-- More of a length, and tables of lengths that are added to others.
use Rattle.std.proofs.Common.{◌≡◌, ℕ, ◌+◌, ◌-◌, ◌^◌, ◌<◌, ◌≤◌, min, Bool, true, false, cond, ltb, eqb, List, [], ◌∷◌, ◌++◌, None, Less, nat_cmp, refl, sym, ap, ◌∙◌, arith, ◌⊎◌, inl, inr}
use Rattle.std.specs.BTreeMap.{insert_entry, is_at}
use Rattle.std.specs.Cmp.{nat_cmp_total}
use Rattle.std.specs.List.Sorted.{IsStrictlySortedBy}
use Rattle.std.specs.Map.{keys_of, lookup}
use Rattle.std.specs.Option.{unwrap_or}
use Rattle.std.proofs.lemmas.Bool.{cases_eq, cases_lt, lt-ltb, le-ltb, eq-eqb, ne_eqb}
use Rattle.std.proofs.lemmas.Map.{lookup-none}
use Rattle.std.proofs.lemmas.Map.Entries.{none_below_head}
use Rattle.std.proofs.lemmas.Map.Keys.{sorted_tail}
use Rattle.scxsim_views.specs.Lengths.{up, up_by, one_more_of, more_of, all_added}
use Rattle.scxsim_views.proofs.Percentiles.{times_with, goes_first, goes_here, goes_behind, up_0}

-- ---- several of a length

more_first : (n l : ℕ) (e : ℕ × ℕ) (es : List (ℕ × ℕ)) → l < e.0 → more_of n l (e ∷ es) ≡ (l, up_by n 0) ∷ e ∷ es
more_first n l e es less = rw (lt-ltb l e.0 less) refl

more_here : (n l : ℕ) (e : ℕ × ℕ) (es : List (ℕ × ℕ)) → e.0 ≤ l → l ≡ e.0 → more_of n l (e ∷ es) ≡ (e.0, up_by n e.1) ∷ es
more_here n l e es at_least same = rw (le-ltb l e.0 at_least, eq-eqb l e.0 same) refl

more_behind : (n l : ℕ) (e : ℕ × ℕ) (es : List (ℕ × ℕ)) → e.0 ≤ l → (l ≡ e.0 → ⊥) → more_of n l (e ∷ es) ≡ e ∷ more_of n l es
more_behind n l e es at_least other = rw (le-ltb l e.0 at_least, ne_eqb l e.0 other) refl

-- an insert of `n` more than were there is `n` more of that length
pub insert_more : (n l : ℕ) (es : List (ℕ × ℕ)) → IsStrictlySortedBy nat_cmp (keys_of es) → insert_entry nat_cmp es l (up_by n (unwrap_or (lookup (is_at (nat_cmp l)) es) 0)) ≡ more_of n l es
insert_more n l [] sorted = refl
insert_more n l (e ∷ es) sorted = go (cases_lt l e.0) (cases_eq l e.0) (insert_more n l es (sorted_tail nat_cmp e.0 (keys_of es) sorted))
  where
    go : (l < e.0) ⊎ (e.0 ≤ l) → (l ≡ e.0) ⊎ (l ≡ e.0 → ⊥) → insert_entry nat_cmp es l (up_by n (unwrap_or (lookup (is_at (nat_cmp l)) es) 0)) ≡ more_of n l es
        → insert_entry nat_cmp (e ∷ es) l (up_by n (unwrap_or (lookup (is_at (nat_cmp l)) (e ∷ es)) 0)) ≡ more_of n l (e ∷ es)
    go (inl less) either rest =
        let cmp : nat_cmp l e.0 ≡ Less = rw (lt-ltb l e.0 less) refl in
        let none : lookup (is_at (nat_cmp l)) (e ∷ es) ≡ None = lookup-none (is_at (nat_cmp l)) (e ∷ es) (none_below_head nat_cmp_total l e es sorted cmp) in
        let first : insert_entry nat_cmp (e ∷ es) l (up_by n 0) ≡ more_of n l (e ∷ es) = rw (lt-ltb l e.0 less) refl in
        ap (λ o. insert_entry nat_cmp (e ∷ es) l (up_by n (unwrap_or o 0))) none ∙ first
    go (inr at_least) (inl same) rest = rw (le-ltb l e.0 at_least, eq-eqb l e.0 same) refl
    go (inr at_least) (inr other) rest =
        rw (le-ltb l e.0 at_least, ne_eqb l e.0 other) (ap (λ xs. e ∷ xs) rest)

-- ---- one more of a length, before or after

swapped : (n a : ℕ) → up_by n (up a) ≡ up (up_by n a)
swapped n a = capped n a (2 ^ 64 - 1)
  where
    capped : (n a m : ℕ) → min (min (a + 1) m + n) m ≡ min (min (a + n) m + 1) m
    capped n a m = omega arith

more_up : (n a : ℕ) → up_by (up n) a ≡ up (up_by n a)
more_up n a = capped n a (2 ^ 64 - 1)
  where
    capped : (n a m : ℕ) → min (a + min (n + 1) m) m ≡ min (min (a + n) m + 1) m
    capped n a m = omega arith

of_one : (n : ℕ) → up_by n 1 ≡ up (up_by n 0)
of_one n = sym (ap (λ a. up_by n a) up_0) ∙ swapped n 0

-- both come before all
both_first : (n k l : ℕ) (ts : List (ℕ × ℕ)) → more_of n k ts ≡ (k, up_by n 0) ∷ ts → one_more_of l ts ≡ (l, 1) ∷ ts → more_of n k ((l, 1) ∷ ts) ≡ one_more_of l ((k, up_by n 0) ∷ ts)
both_first n k l ts more one = go (cases_lt k l) (cases_eq k l)
  where
    go : (k < l) ⊎ (l ≤ k) → (k ≡ l) ⊎ (k ≡ l → ⊥) → more_of n k ((l, 1) ∷ ts) ≡ one_more_of l ((k, up_by n 0) ∷ ts)
    go (inl less) either =
        more_first n k (l, 1) ts less ∙ sym (ap (λ xs. (k, up_by n 0) ∷ xs) one)
        ∙ sym (goes_behind l (k, up_by n 0) ts (omega (arith, less)) (λ e. omega (arith, less, e)))
    go (inr at_least) (inl same) =
        more_here n k (l, 1) ts at_least same ∙ ap (λ m. (l, m) ∷ ts) (of_one n) ∙ ap (λ j. (j, up (up_by n 0)) ∷ ts) (sym same)
        ∙ sym (goes_here l (k, up_by n 0) ts (omega (arith, same)) (sym same))
    go (inr at_least) (inr other) =
        more_behind n k (l, 1) ts at_least other ∙ ap (λ xs. (l, 1) ∷ xs) more
        ∙ sym (goes_first l (k, up_by n 0) ts (omega (arith, at_least, other)))

-- the one comes before all, and the others don't
one_first : (n k l : ℕ) (e : ℕ × ℕ) (es : List (ℕ × ℕ)) → l < e.0 → e.0 ≤ k → (k ≡ e.0) ⊎ (k ≡ e.0 → ⊥) → one_more_of l (more_of n k (e ∷ es)) ≡ (l, 1) ∷ more_of n k (e ∷ es)
one_first n k l e es less at_least (inl same) =
    let more = more_here n k e es at_least same in
    ap (λ xs. one_more_of l xs) more ∙ goes_first l (e.0, up_by n e.1) es less ∙ sym (ap (λ xs. (l, 1) ∷ xs) more)
one_first n k l e es less at_least (inr other) =
    let more = more_behind n k e es at_least other in
    ap (λ xs. one_more_of l xs) more ∙ goes_first l e (more_of n k es) less ∙ sym (ap (λ xs. (l, 1) ∷ xs) more)

-- the others come before all, and the one doesn't
more_before : (n k l : ℕ) (e : ℕ × ℕ) (es : List (ℕ × ℕ)) → k < e.0 → e.0 ≤ l → (l ≡ e.0) ⊎ (l ≡ e.0 → ⊥) → more_of n k (one_more_of l (e ∷ es)) ≡ (k, up_by n 0) ∷ one_more_of l (e ∷ es)
more_before n k l e es less at_least (inl same) =
    let one = goes_here l e es at_least same in
    ap (λ xs. more_of n k xs) one ∙ more_first n k (e.0, up e.1) es less ∙ sym (ap (λ xs. (k, up_by n 0) ∷ xs) one)
more_before n k l e es less at_least (inr other) =
    let one = goes_behind l e es at_least other in
    ap (λ xs. more_of n k xs) one ∙ more_first n k e (one_more_of l es) less ∙ sym (ap (λ xs. (k, up_by n 0) ∷ xs) one)

-- neither comes before all
neither_first : (n k l : ℕ) (e : ℕ × ℕ) (es : List (ℕ × ℕ)) → e.0 ≤ l → (l ≡ e.0) ⊎ (l ≡ e.0 → ⊥) → e.0 ≤ k → (k ≡ e.0) ⊎ (k ≡ e.0 → ⊥) → more_of n k (one_more_of l es) ≡ one_more_of l (more_of n k es)
    → more_of n k (one_more_of l (e ∷ es)) ≡ one_more_of l (more_of n k (e ∷ es))
neither_first n k l e es l_least (inl l_same) k_least (inl k_same) rest =
    ap (λ xs. more_of n k xs) (goes_here l e es l_least l_same) ∙ more_here n k (e.0, up e.1) es k_least k_same ∙ ap (λ m. (e.0, m) ∷ es) (swapped n e.1)
    ∙ sym (ap (λ xs. one_more_of l xs) (more_here n k e es k_least k_same) ∙ goes_here l (e.0, up_by n e.1) es l_least l_same)
neither_first n k l e es l_least (inl l_same) k_least (inr k_other) rest =
    ap (λ xs. more_of n k xs) (goes_here l e es l_least l_same) ∙ more_behind n k (e.0, up e.1) es k_least k_other
    ∙ sym (ap (λ xs. one_more_of l xs) (more_behind n k e es k_least k_other) ∙ goes_here l e (more_of n k es) l_least l_same)
neither_first n k l e es l_least (inr l_other) k_least (inl k_same) rest =
    ap (λ xs. more_of n k xs) (goes_behind l e es l_least l_other) ∙ more_here n k e (one_more_of l es) k_least k_same
    ∙ sym (ap (λ xs. one_more_of l xs) (more_here n k e es k_least k_same) ∙ goes_behind l (e.0, up_by n e.1) es l_least l_other)
neither_first n k l e es l_least (inr l_other) k_least (inr k_other) rest =
    ap (λ xs. more_of n k xs) (goes_behind l e es l_least l_other) ∙ more_behind n k e (one_more_of l es) k_least k_other ∙ ap (λ xs. e ∷ xs) rest
    ∙ sym (ap (λ xs. one_more_of l xs) (more_behind n k e es k_least k_other) ∙ goes_behind l e (more_of n k es) l_least l_other)

-- one more of a length, and then several of another, are these and then the one
in_any_order : (n k l : ℕ) (es : List (ℕ × ℕ)) → more_of n k (one_more_of l es) ≡ one_more_of l (more_of n k es)
in_any_order n k l [] = both_first n k l [] refl refl
in_any_order n k l (e ∷ es) = go (cases_lt l e.0) (cases_eq l e.0) (cases_lt k e.0) (cases_eq k e.0) (in_any_order n k l es)
  where
    go : (l < e.0) ⊎ (e.0 ≤ l) → (l ≡ e.0) ⊎ (l ≡ e.0 → ⊥) → (k < e.0) ⊎ (e.0 ≤ k) → (k ≡ e.0) ⊎ (k ≡ e.0 → ⊥) → more_of n k (one_more_of l es) ≡ one_more_of l (more_of n k es) → more_of n k (one_more_of l (e ∷ es)) ≡ one_more_of l (more_of n k (e ∷ es))
    go (inl l_less) l_is (inl k_less) k_is rest =
        let one = goes_first l e es l_less in
        let more = more_first n k e es k_less in
        ap (λ xs. more_of n k xs) one ∙ both_first n k l (e ∷ es) more one ∙ sym (ap (λ xs. one_more_of l xs) more)
    go (inl l_less) l_is (inr k_least) k_is rest =
        ap (λ xs. more_of n k xs) (goes_first l e es l_less) ∙ more_behind n k (l, 1) (e ∷ es) (omega (arith, l_less, k_least)) (λ same. omega (arith, l_less, k_least, same))
        ∙ sym (one_first n k l e es l_less k_least k_is)
    go (inr l_least) l_is (inl k_less) k_is rest =
        more_before n k l e es k_less l_least l_is ∙ sym (goes_behind l (k, up_by n 0) (e ∷ es) (omega (arith, k_less, l_least)) (λ same. omega (arith, k_less, l_least, same)))
        ∙ sym (ap (λ xs. one_more_of l xs) (more_first n k e es k_less))
    go (inr l_least) l_is (inr k_least) k_is rest = neither_first n k l e es l_least l_is k_least k_is rest

-- one of a length is one more of it
only_one : (l : ℕ) (es : List (ℕ × ℕ)) → more_of 1 l es ≡ one_more_of l es
only_one l [] = ap (λ n. (l, n) ∷ []) up_0
only_one l (e ∷ es) = go (ltb l e.0) (eqb l e.0) (only_one l es)
  where
    go : (b c : Bool) → more_of 1 l es ≡ one_more_of l es → cond b ((l, up_by 1 0) ∷ e ∷ es) (cond c ((e.0, up_by 1 e.1) ∷ es) (e ∷ more_of 1 l es)) ≡ cond b ((l, 1) ∷ e ∷ es) (cond c ((e.0, up e.1) ∷ es) (e ∷ one_more_of l es))
    go true c rest = ap (λ n. (l, n) ∷ e ∷ es) up_0
    go false true rest = refl
    go false false rest = ap (λ xs. e ∷ xs) rest

-- one of a length beside several is one more than these
one_beside : (n l : ℕ) (es : List (ℕ × ℕ)) → more_of (up n) l es ≡ one_more_of l (more_of n l es)
one_beside n l [] = ap (λ m. (l, m) ∷ []) (more_up n 0) ∙ sym (goes_here l (l, up_by n 0) [] (omega arith) refl)
one_beside n l (e ∷ es) = go (cases_lt l e.0) (cases_eq l e.0) (one_beside n l es)
  where
    go : (l < e.0) ⊎ (e.0 ≤ l) → (l ≡ e.0) ⊎ (l ≡ e.0 → ⊥) → more_of (up n) l es ≡ one_more_of l (more_of n l es) → more_of (up n) l (e ∷ es) ≡ one_more_of l (more_of n l (e ∷ es))
    go (inl less) either rest =
        more_first (up n) l e es less ∙ ap (λ m. (l, m) ∷ e ∷ es) (more_up n 0)
        ∙ sym (ap (λ xs. one_more_of l xs) (more_first n l e es less) ∙ goes_here l (l, up_by n 0) (e ∷ es) (omega arith) refl)
    go (inr at_least) (inl same) rest =
        more_here (up n) l e es at_least same ∙ ap (λ m. (e.0, m) ∷ es) (more_up n e.1)
        ∙ sym (ap (λ xs. one_more_of l xs) (more_here n l e es at_least same) ∙ goes_here l (e.0, up_by n e.1) es at_least same)
    go (inr at_least) (inr other) rest =
        more_behind (up n) l e es at_least other ∙ ap (λ xs. e ∷ xs) rest
        ∙ sym (ap (λ xs. one_more_of l xs) (more_behind n l e es at_least other) ∙ goes_behind l e (more_of n l es) at_least other)

-- ---- two tables

added_to : (ms : List (ℕ × ℕ)) (l : ℕ) (es : List (ℕ × ℕ)) → all_added ms (one_more_of l es) ≡ one_more_of l (all_added ms es)
added_to [] l es = refl
added_to (m ∷ ms) l es =
    ap (λ xs. all_added ms xs) (in_any_order m.1 m.0 l es) ∙ added_to ms l (more_of m.1 m.0 es)

added_one : (ms : List (ℕ × ℕ)) (l : ℕ) (es : List (ℕ × ℕ)) → all_added (one_more_of l ms) es ≡ one_more_of l (all_added ms es)
added_one [] l es = only_one l es
added_one (m ∷ ms) l es = go (cases_lt l m.0) (cases_eq l m.0) (added_one ms l (more_of m.1 m.0 es))
  where
    go : (l < m.0) ⊎ (m.0 ≤ l) → (l ≡ m.0) ⊎ (l ≡ m.0 → ⊥) → all_added (one_more_of l ms) (more_of m.1 m.0 es) ≡ one_more_of l (all_added ms (more_of m.1 m.0 es)) → all_added (one_more_of l (m ∷ ms)) es ≡ one_more_of l (all_added (m ∷ ms) es)
    go (inl less) either rest =
        ap (λ xs. all_added xs es) (goes_first l m ms less) ∙ ap (λ xs. all_added (m ∷ ms) xs) (only_one l es) ∙ added_to (m ∷ ms) l es
    go (inr at_least) (inl same) rest =
        ap (λ xs. all_added xs es) (goes_here l m ms at_least same) ∙ ap (λ xs. all_added ms xs) (one_beside m.1 m.0 es) ∙ added_to ms m.0 (more_of m.1 m.0 es)
        ∙ ap (λ j. one_more_of j (all_added (m ∷ ms) es)) (sym same)
    go (inr at_least) (inr other) rest =
        ap (λ xs. all_added xs es) (goes_behind l m ms at_least other) ∙ rest

-- a table of lengths that is added to another gives it all these lengths
pub added_all : (ls : List ℕ) (ms es : List (ℕ × ℕ)) → all_added (times_with ls ms) es ≡ times_with ls (all_added ms es)
added_all [] ms es = refl
added_all (l ∷ ls) ms es = added_all ls (one_more_of l ms) es ∙ ap (λ xs. times_with ls xs) (added_one ms l es)

-- lengths that are counted in two steps are counted
pub times_append : (ks ls : List ℕ) (es : List (ℕ × ℕ)) → times_with (ks ++ ls) es ≡ times_with ls (times_with ks es)
times_append [] ls es = refl
times_append (k ∷ ks) ls es = times_append ks ls (one_more_of k es)
