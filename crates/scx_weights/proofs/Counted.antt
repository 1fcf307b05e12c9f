-- A usage is what has run since the group's period began.
use Rattle.std.proofs.Common.{ℕ, ◌+◌, ◌<◌, ◌≡◌, Bool, true, false, not, cond, List, [], ◌∷◌, length, get_or, refl, sym, ap, ◌∙◌, subst, arith}
use Rattle.std.specs.List.{count_by, take_while}
use Rattle.std.proofs.lemmas.List.Sums.{take_while-cons, sum_by-cons}
use Rattle.scx_weights.specs.declared.group.Group.{Group}
use Rattle.scx_weights.specs.Hierarchy.{Hierarchy, lies_in, home_of}
use Rattle.scx_weights.specs.Limits.{usage_of, begins_period, with_use, with_turn}
use Rattle.scx_weights.specs.Uses.{Use, Ran, Turned, after, is_run_in, is_within_period, runs_in_period}
use Rattle.scx_weights.specs.QuotaLaws.{UsagesCountRuns}
use Rattle.scx_weights.proofs.Usages.{usage_used, usage_turned}

-- the groups and the tasks stay
pub groups_after : (t : Hierarchy) (past : List Use) → (after t past).groups ≡ t.groups
groups_after t [] = refl
groups_after t (Ran k ∷ past) = groups_after t past
groups_after t (Turned clock ∷ past) = groups_after t past

-- uses change no task's group
pub homes_after : (t : Hierarchy) (past : List Use) → (after t past).homes ≡ t.homes
homes_after t [] = refl
homes_after t (Ran k ∷ past) = homes_after t past
homes_after t (Turned clock ∷ past) = homes_after t past

-- one more ran
runs_more : (t : Hierarchy) (g k : ℕ) (past : List Use) → runs_in_period t g (Ran k ∷ past) ≡ cond (lies_in t.groups (home_of t k) g) 1 0 + runs_in_period t g past
runs_more t g k past =
    ap (λ us. count_by (is_run_in t g) us) (take_while-cons (is_within_period t g) (Ran k) past)
    ∙ sum_by-cons (λ u. cond (is_run_in t g u) 1 0) (Ran k) (take_while (is_within_period t g) past)

-- the clock grew, and perhaps a period began
runs_turned : (t : Hierarchy) (g clock : ℕ) (past : List Use) → runs_in_period t g (Turned clock ∷ past) ≡ cond (begins_period t g clock) 0 (runs_in_period t g past)
runs_turned t g clock past =
    ap (λ us. count_by (is_run_in t g) us) (take_while-cons (is_within_period t g) (Turned clock) past)
    ∙ by_case (begins_period t g clock)
  where
    by_case : (b : Bool) → count_by (is_run_in t g) (cond (not b) (Turned clock ∷ take_while (is_within_period t g) past) []) ≡ cond b 0 (runs_in_period t g past)
    by_case true = refl
    by_case false = refl

-- the law
pub usages_count_runs_lem : UsagesCountRuns
usages_count_runs_lem t g [] lt none = none
usages_count_runs_lem t g (Ran k ∷ past) lt none =
    let now : Hierarchy = after t past in
    let rest : usage_of now g ≡ runs_in_period t g past = usages_count_runs_lem t g past lt none in
    let within : g < length now.groups = subst (λ (gs : List Group). g < length gs) (sym (groups_after t past)) lt in
    let step : usage_of (with_use now k) g ≡ usage_of now g + cond (lies_in now.groups (home_of now k) g) 1 0 = usage_used now k g within in
    let same_groups : lies_in now.groups (home_of now k) g ≡ lies_in t.groups (home_of now k) g = ap (λ gs. lies_in gs (home_of now k) g) (groups_after t past) in
    let same_home : lies_in t.groups (home_of now k) g ≡ lies_in t.groups (home_of t k) g = ap (λ hs. lies_in t.groups (get_or hs k 0) g) (homes_after t past) in
    let same : cond {A = ℕ} (lies_in now.groups (home_of now k) g) 1 0 ≡ cond (lies_in t.groups (home_of t k) g) 1 0 = ap (λ b. cond {A = ℕ} b 1 0) (same_groups ∙ same_home) in
    let more : runs_in_period t g (Ran k ∷ past) ≡ cond (lies_in t.groups (home_of t k) g) 1 0 + runs_in_period t g past = runs_more t g k past in
    omega (arith, rest, step, same, more)
usages_count_runs_lem t g (Turned clock ∷ past) lt none =
    let now : Hierarchy = after t past in
    let rest : usage_of now g ≡ runs_in_period t g past = usages_count_runs_lem t g past lt none in
    let within : g < length now.groups = subst (λ (gs : List Group). g < length gs) (sym (groups_after t past)) lt in
    let step : usage_of (with_turn now clock) g ≡ cond (begins_period now g clock) 0 (usage_of now g) = usage_turned now clock g within in
    let same : begins_period now g clock ≡ begins_period t g clock = ap (λ gs. begins_period (record t { groups = gs }) g clock) (groups_after t past) in
    step ∙ ap (λ b. cond b 0 (usage_of now g)) same ∙ ap (λ n. cond (begins_period t g clock) 0 n) rest ∙ sym (runs_turned t g clock past)
