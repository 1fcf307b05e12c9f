-- No usage passes its bound. With a group's usage the processors that run its tasks are counted: together they stay
-- below the quota plus the number of processors.
use Rattle.std.proofs.Common.{ℕ, zero, suc, ◌+◌, ◌<◌, ◌≤◌, ◌≡◌, Bool, true, false, ◌&&◌, not, cond, eqb, ltb, List, [], ◌∷◌, length, replicate, get_or, set, Option, None, Some, is_none, refl, sym, ap, ◌∙◌, subst, arith, ⊎_elim}
use Rattle.std.specs.List.{count_by, list_any}
use Rattle.std.proofs.lemmas.Bool.{cases_lt, cases_Bool, eqb-true, ltb-true, or_cases, or_parts}
use Rattle.std.proofs.lemmas.List.{length-set, length-replicate, get_or_past}
use Rattle.std.proofs.lemmas.List.Sums.{sum_by-set, count_by-le-length}
use Rattle.scx_weights.specs.declared.group.Group.{Group}
use Rattle.scx_weights.specs.Hierarchy.{Hierarchy, quota_at, path, lies_in, home_of}
use Rattle.scx_weights.specs.Limits.{usage_of, is_throttled_group, is_throttled, begins_period, with_use, with_turn}
use Rattle.scx_weights.specs.Uses.{Use, after, runs_in_period}
use Rattle.scx_weights.specs.Machine.{QuotaMachine, Step, Begin, End, Tick, Turn, running, idle_machine, without_throttled, after_ms, after_step, is_allowed, run_of, are_allowed, uses_of, used_by, ran_now}
use Rattle.scx_weights.specs.Bounds.{runs_in, cpus_in, StaysBelowQuota}
use Rattle.scx_weights.specs.QuotaLaws.{UsagesAreBounded, RunsAreBounded}
use Rattle.scx_weights.proofs.Usages.{usage_used, usage_turned, something_left}
use Rattle.scx_weights.proofs.Counted.{usages_count_runs_lem}

passes_none : (test : ℕ → Bool) (g : ℕ) (xs : List ℕ) → list_any test xs ≡ false → list_any (λ x. eqb x g) xs ≡ true → test g ≡ false
passes_none test g [] none there = absurd (cc)
passes_none test g (x ∷ xs) none there =
    let both = or_parts (test x) (list_any test xs) none in
    ⊎_elim
    (λ (here : eqb x g ≡ true). ap (λ y. test y) (sym (eqb-true x g here)) ∙ both.0)
    (λ (later : list_any (λ y. eqb y g) xs ≡ true). passes_none test g xs both.1 later)
    (or_cases (eqb x g) (list_any (λ y. eqb y g) xs) there)

-- above a task that isn't throttled something is left of each quota
pub left_above : (t : Hierarchy) (k g quota : ℕ) → is_throttled t k ≡ false → lies_in t.groups (home_of t k) g ≡ true → quota_at t.groups g ≡ Some quota → usage_of t g < quota
left_above t k g quota free there is =
    something_left quota (usage_of t g) (quota_at t.groups g) is
    (passes_none (λ x. is_throttled_group t x) g (path t.groups (home_of t k)) free there)

-- one processor gets another task, or none
pub cpu_set : (t : Hierarchy) (g : ℕ) (cpus : List (Option ℕ)) (c : ℕ) (o : Option ℕ) → c < length cpus
    → cpus_in t g (set cpus c o) + cond (runs_in t g (get_or cpus c None)) 1 0 ≡ cpus_in t g cpus + cond (runs_in t g o) 1 0
cpu_set t g cpus c o lt = sum_by-set (λ x. cond (runs_in t g x) 1 0) cpus c o None lt

-- a processor that runs a task is there
pub cpu_known : (cpus : List (Option ℕ)) (c k : ℕ) → get_or cpus c None ≡ Some k → c < length cpus
cpu_known cpus c k is =
    ⊎_elim
    (λ (lt : c < length cpus). lt)
    (λ (le : length cpus ≤ c). let past : get_or cpus c None ≡ None = get_or_past cpus c None le in absurd (cc))
    (cases_lt c (length cpus))

none_is : (o : Option ℕ) → is_none o ≡ true → o ≡ None
none_is None e = refl
none_is (Some k) e = absurd (cc)

-- both hold
and_parts : (a b : Bool) → (a && b) ≡ true → (a ≡ true) × (b ≡ true)
and_parts true b e = (refl, e)
and_parts false b e = absurd (cc)

not_true : (b : Bool) → not b ≡ true → b ≡ false
not_true true e = absurd (cc)
not_true false e = refl

-- a task that isn't throttled begins to run on a free processor
pub begins_within : (t : Hierarchy) (cpus : List (Option ℕ)) (c k g quota : ℕ) → quota_at t.groups g ≡ Some quota → c < length cpus
    → get_or cpus c None ≡ None → is_throttled t k ≡ false → StaysBelowQuota t cpus g quota → StaysBelowQuota t (set cpus c (Some k)) g quota
begins_within t cpus c k g quota is lt free unthrottled within =
    let changed : cpus_in t g (set cpus c (Some k)) + cond (runs_in t g (get_or cpus c None)) 1 0 ≡ cpus_in t g cpus + cond (lies_in t.groups (home_of t k) g) 1 0 = cpu_set t g cpus c (Some k) lt in
    let nobody : cond {A = ℕ} (runs_in t g (get_or cpus c None)) 1 0 ≡ 0 = ap (λ o. cond {A = ℕ} (runs_in t g o) 1 0) free in
    let same : length (set cpus c (Some k)) ≡ length cpus = length-set cpus c (Some k) in
    let most : cpus_in t g (set cpus c (Some k)) ≤ length (set cpus c (Some k)) = count_by-le-length (runs_in t g) (set cpus c (Some k)) in
    ⊎_elim
    (λ (there : lies_in t.groups (home_of t k) g ≡ true).
    let some_left : usage_of t g < quota = left_above t k g quota unthrottled there is in
    omega (arith, same, most, some_left))
    (λ (elsewhere : lies_in t.groups (home_of t k) g ≡ false).
    let nothing : cond {A = ℕ} (lies_in t.groups (home_of t k) g) 1 0 ≡ 0 = ap (λ b. cond {A = ℕ} b 1 0) elsewhere in
    omega (arith, same, changed, nobody, nothing, within))
    (cases_Bool (lies_in t.groups (home_of t k) g))

-- a task stops
pub ends_within : (t : Hierarchy) (cpus : List (Option ℕ)) (c g quota : ℕ) → c < length cpus → StaysBelowQuota t cpus g quota → StaysBelowQuota t (set cpus c None) g quota
ends_within t cpus c g quota lt within =
    let changed : cpus_in t g (set cpus c None) + cond (runs_in t g (get_or cpus c None)) 1 0 ≡ cpus_in t g cpus + 0 = cpu_set t g cpus c None lt in
    let same : length (set cpus c None) ≡ length cpus = length-set cpus c None in
    omega (arith, same, changed, within)

-- a task has run for a ms, and leaves if it is throttled then
pub ticks_within : (t : Hierarchy) (cpus : List (Option ℕ)) (c k g quota : ℕ) → g < length t.groups → quota_at t.groups g ≡ Some quota
    → get_or cpus c None ≡ Some k → StaysBelowQuota t cpus g quota → StaysBelowQuota (with_use t k) (without_throttled (with_use t k) k cpus c) g quota
ticks_within t cpus c k g quota g_lt is here within =
    ⊎_elim
    (λ (e : is_throttled (with_use t k) k ≡ true).
    subst (λ (b : Bool). StaysBelowQuota (with_use t k) (cond b (set cpus c None) cpus) g quota) (sym e)
    (let same : length (set cpus c None) ≡ length cpus = length-set cpus c None in
    let gone : cpus_in t g (set cpus c None) + one ≡ cpus_in t g cpus = goes in
    omega (arith, used, same, gone, within)))
    (λ (e : is_throttled (with_use t k) k ≡ false).
    subst (λ (b : Bool). StaysBelowQuota (with_use t k) (cond b (set cpus c None) cpus) g quota) (sym e)
    (stays e))
    (cases_Bool (is_throttled (with_use t k) k))
  where
    one : ℕ
    one = cond (lies_in t.groups (home_of t k) g) 1 0

    used : usage_of (with_use t k) g ≡ usage_of t g + one
    used = usage_used t k g g_lt

    goes : cpus_in t g (set cpus c None) + one ≡ cpus_in t g cpus
    goes =
        let changed : cpus_in t g (set cpus c None) + cond (runs_in t g (get_or cpus c None)) 1 0 ≡ cpus_in t g cpus + 0 = cpu_set t g cpus c None (cpu_known cpus c k here) in
        let who : cond {A = ℕ} (runs_in t g (get_or cpus c None)) 1 0 ≡ one = ap (λ o. cond {A = ℕ} (runs_in t g o) 1 0) here in
        omega (arith, changed, who)

    stays : is_throttled (with_use t k) k ≡ false → StaysBelowQuota (with_use t k) cpus g quota
    stays e =
        ⊎_elim
        (λ (there : lies_in t.groups (home_of t k) g ≡ true).
        let some_left : usage_of (with_use t k) g < quota = left_above (with_use t k) k g quota e there is in
        let most : cpus_in t g cpus ≤ length cpus = count_by-le-length (runs_in t g) cpus in
        omega (arith, some_left, most))
        (λ (elsewhere : lies_in t.groups (home_of t k) g ≡ false).
        let nothing : one ≡ 0 = ap (λ b. cond {A = ℕ} b 1 0) elsewhere in
        omega (arith, used, nothing, within))
        (cases_Bool (lies_in t.groups (home_of t k) g))

-- the clock grows
pub turns_within : (t : Hierarchy) (cpus : List (Option ℕ)) (clock g quota : ℕ) → g < length t.groups → StaysBelowQuota t cpus g quota → StaysBelowQuota (with_turn t clock) cpus g quota
turns_within t cpus clock g quota lt within =
    let turned : usage_of (with_turn t clock) g ≡ cond (begins_period t g clock) 0 (usage_of t g) = usage_turned t clock g lt in
    let less : cond (begins_period t g clock) 0 (usage_of t g) ≤ usage_of t g = at_most (begins_period t g clock) (usage_of t g) in
    omega (arith, turned, less, within)
  where
    at_most : (b : Bool) (n : ℕ) → cond b 0 n ≤ n
    at_most true n = omega arith
    at_most false n = omega arith

-- what never changes
pub record Stays (t : Hierarchy) (n : ℕ) (m : QuotaMachine) : Type 0 where
  pub groups : m.tree.groups ≡ t.groups
  pub cpus : length m.cpus ≡ n

ticked_stays : (t : Hierarchy) (n : ℕ) (m : QuotaMachine) (c : ℕ) (o : Option ℕ) → Stays t n m → Stays t n (after_ms o m c)
ticked_stays t n m c None s = s
ticked_stays t n m c (Some k) s = record {
  groups = s.groups;
  cpus = which (is_throttled (with_use m.tree k) k);
}
  where
    which : (b : Bool) → length (cond b (set m.cpus c None) m.cpus) ≡ n
    which true = length-set m.cpus c None ∙ s.cpus
    which false = s.cpus

step_stays : (t : Hierarchy) (n : ℕ) (m : QuotaMachine) (s : Step) → Stays t n m → Stays t n (after_step m s)
step_stays t n m (Begin c k) s = record { groups = s.groups; cpus = length-set m.cpus c (Some k) ∙ s.cpus }
step_stays t n m (End c) s = record { groups = s.groups; cpus = length-set m.cpus c None ∙ s.cpus }
step_stays t n m (Tick c) s = ticked_stays t n m c (running m c) s
step_stays t n m (Turn clock) s = record { groups = s.groups; cpus = s.cpus }

-- no step changes which groups there are, or how many processors
pub run_stays : (t : Hierarchy) (n : ℕ) (past : List Step) → Stays t n (run_of (idle_machine t n) past)
run_stays t n [] = record { groups = refl; cpus = length-replicate {A = Option ℕ} n None }
run_stays t n (s ∷ past) = step_stays t n (run_of (idle_machine t n) past) s (run_stays t n past)

ticked_within : (m : QuotaMachine) (c g quota : ℕ) (o : Option ℕ) → running m c ≡ o → g < length m.tree.groups → quota_at m.tree.groups g ≡ Some quota
    → StaysBelowQuota m.tree m.cpus g quota → StaysBelowQuota (after_ms o m c).tree (after_ms o m c).cpus g quota
ticked_within m c g quota None is lt quota_is within = within
ticked_within m c g quota (Some k) is lt quota_is within = ticks_within m.tree m.cpus c k g quota lt quota_is is within

-- a step that is allowed keeps it
pub step_within : (m : QuotaMachine) (s : Step) (g quota : ℕ) → g < length m.tree.groups → quota_at m.tree.groups g ≡ Some quota → is_allowed m s ≡ true
    → StaysBelowQuota m.tree m.cpus g quota → StaysBelowQuota (after_step m s).tree (after_step m s).cpus g quota
step_within m (Begin c k) g quota lt is ok within =
    let parts = and_parts (ltb c (length m.cpus) && is_none (running m c)) (not (is_throttled m.tree k)) ok in
    let place = and_parts (ltb c (length m.cpus)) (is_none (running m c)) parts.0 in
    begins_within m.tree m.cpus c k g quota is (ltb-true c (length m.cpus) place.0) (none_is (running m c) place.1) (not_true (is_throttled m.tree k) parts.1) within
step_within m (End c) g quota lt is ok within = ends_within m.tree m.cpus c g quota (ltb-true c (length m.cpus) ok) within
step_within m (Tick c) g quota lt is ok within = ticked_within m c g quota (running m c) refl lt is within
step_within m (Turn clock) g quota lt is ok within = turns_within m.tree m.cpus clock g quota lt within

nobody_runs : (t : Hierarchy) (g n : ℕ) → cpus_in t g (replicate n None) ≡ 0
nobody_runs t g n = count_none n
  where
    count_none : (n : ℕ) → cpus_in t g (replicate n None) ≡ 0
    count_none zero = refl
    count_none (suc n) = count_none n

-- from an idle machine on, allowed steps keep a group's usage and running tasks below its quota plus the processors
pub run_within : (t : Hierarchy) (n : ℕ) (past : List Step) (g quota : ℕ) → g < length t.groups → quota_at t.groups g ≡ Some quota → 0 < quota
    → usage_of t g ≡ 0 → are_allowed (idle_machine t n) past ≡ true
    → StaysBelowQuota (run_of (idle_machine t n) past).tree (run_of (idle_machine t n) past).cpus g quota
run_within t n [] g quota lt is some none ok =
    let nobody : cpus_in t g (replicate n None) ≡ 0 = nobody_runs t g n in
    omega (arith, nobody, none, some)
run_within t n (s ∷ past) g quota lt is some none ok =
    let m : QuotaMachine = run_of (idle_machine t n) past in
    let parts = and_parts (is_allowed m s) (are_allowed (idle_machine t n) past) ok in
    let same : m.tree.groups ≡ t.groups = (run_stays t n past).groups in
    step_within m s g quota (subst (λ (gs : List Group). g < length gs) (sym same) lt) (ap (λ gs. quota_at gs g) same ∙ is) parts.0
    (run_within t n past g quota lt is some none parts.1)

-- the law
pub usages_are_bounded_lem : UsagesAreBounded
usages_are_bounded_lem t n past g quota lt is some none ok =
    let m : QuotaMachine = run_of (idle_machine t n) past in
    let within : usage_of m.tree g + cpus_in m.tree g m.cpus < quota + length m.cpus = run_within t n past g quota lt is some none ok in
    let same : length m.cpus ≡ n = (run_stays t n past).cpus in
    omega (arith, within, same)

ticked_tree : (t : Hierarchy) (m : QuotaMachine) (c : ℕ) (o : Option ℕ) (us : List Use) → m.tree ≡ after t us → (after_ms o m c).tree ≡ after t (ran_now o us)
ticked_tree t m c None us is = is
ticked_tree t m c (Some k) us is = ap (λ x. with_use x k) is

step_tree : (t : Hierarchy) (m : QuotaMachine) (s : Step) (us : List Use) → m.tree ≡ after t us → (after_step m s).tree ≡ after t (used_by m s us)
step_tree t m (Begin c k) us is = is
step_tree t m (End c) us is = is
step_tree t m (Tick c) us is = ticked_tree t m c (running m c) us is
step_tree t m (Turn clock) us is = ap (λ x. with_turn x clock) is

-- the tree is what the uses make of it
pub run_tree : (t : Hierarchy) (n : ℕ) (past : List Step) → (run_of (idle_machine t n) past).tree ≡ after t (uses_of (idle_machine t n) past)
run_tree t n [] = refl
run_tree t n (s ∷ past) = step_tree t (run_of (idle_machine t n) past) s (uses_of (idle_machine t n) past) (run_tree t n past)

-- the law
pub runs_are_bounded_lem : RunsAreBounded
runs_are_bounded_lem t n past g quota lt is some none ok =
    let us : List Use = uses_of (idle_machine t n) past in
    let bound : usage_of (run_of (idle_machine t n) past).tree g < quota + n = usages_are_bounded_lem t n past g quota lt is some none ok in
    let tree : usage_of (run_of (idle_machine t n) past).tree g ≡ usage_of (after t us) g = ap (λ x. usage_of x g) (run_tree t n past) in
    let count : usage_of (after t us) g ≡ runs_in_period t g us = usages_count_runs_lem t g us lt none in
    omega (arith, bound, tree, count)
