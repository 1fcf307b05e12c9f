-- The weights that tasks have themselves stay in their range.
use Rattle.std.proofs.Common.{ℕ, ◌<◌, ◌≤◌, ◌≡◌, false, List, length, replicate, get_or, set, sym, ◌∙◌, subst, arith, ⊎_elim}
use Rattle.std.proofs.lemmas.Bool.{cases_eq, cases_lt}
use Rattle.std.proofs.lemmas.List.{length-replicate, length-set, get_or-replicate, get_or-set_same, get_or-set_other, get_or_past}
use Rattle.scx_weights.specs.Hierarchy.{default_own_weight}
use Rattle.scx_weights.specs.Refusals.{max_weight, is_outside, has_bad_own_weight}
use Rattle.scx_weights.specs.RunningSums.{HasOwnWeights}
use Rattle.scx_weights.proofs.Reweighed.{inside}
use Rattle.scx_weights.proofs.Admitted.{none_at}

-- the default weight is in its range
pub defaults_are_own : (homes : List ℕ) → HasOwnWeights homes (replicate (length homes) default_own_weight)
defaults_are_own homes = record {
  own_length = length-replicate (length homes) default_own_weight;
  least = λ k lt. let here : get_or (replicate (length homes) default_own_weight) k 0 ≡ default_own_weight = get_or-replicate (length homes) k default_own_weight 0 lt in omega (arith, here);
  greatest = λ k lt. let here : get_or (replicate (length homes) default_own_weight) k 0 ≡ default_own_weight = get_or-replicate (length homes) k default_own_weight 0 lt in omega (arith, here);
}

-- a weight that is set is as it is set, and no other changes
own_at : (P : ℕ → Type 0) (own : List ℕ) (k w j : ℕ) → k < length own → P w → P (get_or own j 0) → P (get_or (set own k w) j 0)
own_at P own k w j lt new old =
    ⊎_elim
    (λ (e : j ≡ k). subst (λ i. P (get_or (set own k w) i 0)) (sym e) (subst P (sym (get_or-set_same own k w 0 lt)) new))
    (λ (other : j ≡ k → ⊥). subst P (sym (get_or-set_other own k j w 0 other)) old)
    (cases_eq j k)

-- a weight in its range may be set
pub own_set : (homes own : List ℕ) (k w : ℕ) → HasOwnWeights homes own → k < length homes → is_outside max_weight w ≡ false → HasOwnWeights homes (set own k w)
own_set homes own k w kept lt e =
    let range = inside max_weight w e in
    let known : k < length own = omega (arith, kept.own_length, lt) in
    record {
      own_length = length-set own k w ∙ kept.own_length;
      least = λ j j_lt. own_at (λ x. 1 ≤ x) own k w j known range.0 (kept.least j j_lt);
      greatest = λ j j_lt. own_at (λ x. x ≤ max_weight) own k w j known range.1 (kept.greatest j j_lt);
    }

-- weights of which none is out of its range may be set
pub all_set : (homes own : List ℕ) → length own ≡ length homes → has_bad_own_weight own ≡ false → HasOwnWeights homes own
all_set homes own even none = record {
  own_length = even;
  least = λ k lt. let range = inside max_weight (get_or own k 0) (none_at (λ w. is_outside max_weight w) own k 0 none (omega (arith, even, lt))) in range.0;
  greatest = λ k lt. let range = inside max_weight (get_or own k 0) (none_at (λ w. is_outside max_weight w) own k 0 none (omega (arith, even, lt))) in range.1;
}

-- a weight that is read is no greater than the greatest, also where there is no such task
pub own_few : (homes own : List ℕ) (k : ℕ) → HasOwnWeights homes own → get_or own k 0 ≤ max_weight
own_few homes own k kept =
    ⊎_elim
    (λ (lt : k < length own). kept.greatest k (omega (arith, kept.own_length, lt)))
    (λ (past : length own ≤ k). let none : get_or own k 0 ≡ 0 = get_or_past own k 0 past in omega (arith, none))
    (cases_lt k (length own))
