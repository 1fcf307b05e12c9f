-- A task that has an entry waits in one of the queues that there are.
use Rattle.std.proofs.Common.{◌≡◌, ◌≢◌, ℕ, suc, ◌+◌, true, false, ◌==◌, ◌⊎◌, inl, inr, cond, List, [], ◌∷◌, get_or, AllPairs, count_by, Option, Some, None, is_some, refl, sym, ◌∙◌, arith}
use Rattle.std.specs.List.{list_any}
use Rattle.std.proofs.lemmas.Bool.{both_ways, cases_Bool, eq-eqb, eqb-true, ne_eqb, or_parts}
use Rattle.std.proofs.lemmas.List.Sums.{sum_by-cons}
use Rattle.std.proofs.lemmas.List.Folds.{list_any_none}
use Rattle.scx_dsq.specs.declared.entries.Entry.{Entry}
use Rattle.scx_dsq.specs.Queues.{QueueState, entry_of, is_in}
use Rattle.scx_dsq.specs.Laws.{IsSound, one_if, StandsInSoMany}

count-cons : (q id : ℕ) (ids : List ℕ) → count_by (λ other. q == other) (id ∷ ids) ≡ cond (q == id) 1 0 + count_by (λ other. q == other) ids
count-cons q id ids = sum_by-cons (λ other. cond (q == other) 1 0) id ids

missing : (q : ℕ) (ids : List ℕ) → list_any (λ other. other == q) ids ≡ false → count_by (λ other. q == other) ids ≡ 0
missing q [] e = refl
missing q (id ∷ ids) e =
    let parts = or_parts (id == q) (list_any (λ other. other == q) ids) e in
    let here : (q == id) ≡ false = ne_eqb q id (λ same. both_ways (id == q) parts.0 (eq-eqb id q (sym same))) in
    count-cons q id ids ∙ rw (here, missing q ids parts.1) refl

once : (q : ℕ) (ids : List ℕ) → AllPairs (λ id other. id ≢ other) ids → list_any (λ other. other == q) ids ≡ true → count_by (λ other. q == other) ids ≡ 1
once q [] apart there = absurd (cc)
once q (id ∷ ids) apart there = go (cases_Bool (id == q)) (λ rest. once q ids (λ i j d lt within. apart (suc i) (suc j) d (omega arith) (omega arith)) rest)
  where
    go : ((id == q) ≡ true) ⊎ ((id == q) ≡ false) → (list_any (λ other. other == q) ids ≡ true → count_by (λ other. q == other) ids ≡ 1) → count_by (λ other. q == other) (id ∷ ids) ≡ 1
    go (inl here) others =
        let same : id ≡ q = eqb-true id q here in
        let none = list_any_none (λ other. other == q) ids (λ k d lt. ne_eqb (get_or ids k d) q (λ e. apart 0 (suc k) d (omega arith) (omega arith) (same ∙ sym e))) in
        count-cons q id ids ∙ rw (eq-eqb q id (sym same), missing q ids none) refl
    go (inr other) others =
        let rest : list_any (λ o. o == q) ids ≡ true = rw other at there in
        let not_here : (q == id) ≡ false = ne_eqb q id (λ same. both_ways (id == q) other (eq-eqb id q (sym same))) in
        count-cons q id ids ∙ rw (not_here, others rest) refl

nowhere : (ids : List ℕ) → count_by (λ id. is_in id None) ids ≡ 0
nowhere [] = refl
nowhere (id ∷ ids) = sum_by-cons (λ other. cond (is_in other None) 1 0) id ids ∙ rw (nowhere ids) refl

-- a task waits in one of the queues that there are if it has an entry, else in none
pub stands_in_so_many : (s : QueueState) → IsSound s → StandsInSoMany s
stands_in_so_many s h t = go (entry_of s t) refl
  where
    go : (o : Option Entry) → entry_of s t ≡ o → count_by (λ id. is_in id o) s.ids ≡ one_if (is_some o)
    go None e = nowhere s.ids
    go (Some p) e = once p.queue s.ids h.queues.distinct (h.homes t p e)
