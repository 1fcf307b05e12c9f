-- How far usages go, as tasks come to processors and leave them, run for a millisecond, and periods begin.
use Rattle.std.proofs.Common.{◌≡◌, ℕ, zero, suc, ◌+◌, ◌%◌, ◌<◌, ◌≤◌, ◌⊎◌, inl, inr, Bool, true, false, ◌==◌, ◌||◌, cond, List, [], ◌∷◌, length, replicate, set, get_or, map, Option, Some, None, refl, sym, ◌∙◌, ap, subst, arith}
use Rattle.std.specs.List.{list_any, range_with_len}
use Rattle.std.proofs.lemmas.Bool.{cases_eq, cases_lt, eq-eqb}
use Rattle.std.proofs.lemmas.List.{get_or_past, get_or-set_same, get_or-set_other, length-set, length-replicate, set_past}
use Rattle.std.proofs.lemmas.List.FromFn.{get_or-map-range_with_len, length-map-range_with_len}
use Rattle.std.proofs.lemmas.List.Sums.{sum_by-cons}
use Rattle.std.proofs.Math.Nat.{zero-mod}
use Rattle.scx_weights.specs.declared.group.Group.{Group}
use Rattle.scx_weights.specs.Hierarchy.{Hierarchy, parent_of, quota_at, period_at, upward, path, lies_in, home_of, with_weight_of, with_weight, with_own_weight}
use Rattle.scx_weights.specs.Limits.{usage_of, is_used_up, is_throttled_group, is_throttled, begins_period, with_use, with_turn}
use Rattle.scx_weights.proofs.Reweighed.{parent_reweighed}
use Rattle.scx_weights.specs.Bounds.{runs_in, cpus_in, StaysBelowQuota}
use Rattle.scx_weights.proofs.Usages.{usage_turned, no_quota}
use Rattle.scx_weights.proofs.Bounded.{begins_within, ends_within, ticks_within, turns_within}
use Rattle.scx_sched_world.specs.World.{WorldState}
use Rattle.scx_sched.specs.Usages.{AreWithin, AreBounded}

-- ---- processors

-- a task that isn't throttled comes to a free processor
pub within_begun : (t : Hierarchy) (on : List (Option ℕ)) (c k : ℕ) → c < length on → get_or on c None ≡ None → is_throttled t k ≡ false → AreWithin t on → AreWithin t (set on c (Some k))
within_begun t on c k l free unthrottled h g quota lt is = begins_within t on c k g quota is l free unthrottled (h g quota lt is)

-- a task leaves its processor
pub within_ended : (t : Hierarchy) (on : List (Option ℕ)) (c : ℕ) → c < length on → AreWithin t on → AreWithin t (set on c None)
within_ended t on c l h g quota lt is = ends_within t on c g quota l (h g quota lt is)

-- ---- a millisecond

-- a task that may go on stays
pub within_used : (t : Hierarchy) (on : List (Option ℕ)) (c k : ℕ) → get_or on c None ≡ Some k → is_throttled (with_use t k) k ≡ false → AreWithin t on → AreWithin (with_use t k) on
within_used t on c k runs free h g quota lt is =
    subst (λ (b : Bool). StaysBelowQuota (with_use t k) (cond b (set on c None) on) g quota) free (ticks_within t on c k g quota lt is runs (h g quota lt is))

-- and one that may not leaves
pub within_used_up : (t : Hierarchy) (on : List (Option ℕ)) (c k : ℕ) → get_or on c None ≡ Some k → is_throttled (with_use t k) k ≡ true → AreWithin t on → AreWithin (with_use t k) (set on c None)
within_used_up t on c k runs throttled h g quota lt is =
    subst (λ (b : Bool). StaysBelowQuota (with_use t k) (cond b (set on c None) on) g quota) throttled (ticks_within t on c k g quota lt is runs (h g quota lt is))

-- periods begin
pub within_turned : (t : Hierarchy) (on : List (Option ℕ)) (clock : ℕ) → AreWithin t on → AreWithin (with_turn t clock) on
within_turned t on clock h g quota lt is = turns_within t on clock g quota lt (h g quota lt is)

-- ---- a weight

quota_reweighed : (groups : List Group) (g x k : ℕ) → quota_at (with_weight_of groups g x) k ≡ quota_at groups k
quota_reweighed groups g x k = go (cases_eq k g) (cases_lt g (length groups))
  where
    none : Group
    none = record { parent = None; weight = 0; quota_ms = None; period_ms = 0 }

    new : Group
    new = record { parent = parent_of groups g; weight = x; quota_ms = quota_at groups g; period_ms = period_at groups g }

    go : (k ≡ g) ⊎ (k ≡ g → ⊥) → (g < length groups) ⊎ (length groups ≤ g) → quota_at (set groups g new) k ≡ quota_at groups k
    go (inl e) (inl l) = rw (e) (ap (λ (y : Group). y.quota_ms) (get_or-set_same groups g new none l))
    go (inl e) (inr past) = ap (λ gs. quota_at gs k) (set_past groups g new past)
    go (inr d) l = ap (λ (y : Group). y.quota_ms) (get_or-set_other groups g k new none d)

upward_reweighed : (groups : List Group) (g x : ℕ) → g < length groups → (n : ℕ) (at : Option ℕ) → upward (with_weight_of groups g x) n at ≡ upward groups n at
upward_reweighed groups g x l zero at = refl
upward_reweighed groups g x l (suc n) None = refl
upward_reweighed groups g x l (suc n) (Some k) =
    ap (λ p. k ∷ upward (with_weight_of groups g x) n p) (parent_reweighed groups g x k l) ∙ ap (λ ks. k ∷ ks) (upward_reweighed groups g x l n (parent_of groups k))

-- who lies where stays
path_reweighed : (groups : List Group) (g x k : ℕ) → path (with_weight_of groups g x) k ≡ path groups k
path_reweighed groups g x k = go (cases_lt g (length groups))
  where
    go : (g < length groups) ⊎ (length groups ≤ g) → path (with_weight_of groups g x) k ≡ path groups k
    go (inl l) = upward_reweighed groups g x l 3 (Some k)
    go (inr past) = ap (λ gs. path gs k) (set_past groups g _ past)

cpus_same : (t u : Hierarchy) (g : ℕ) → ((k : ℕ) → lies_in u.groups (home_of u k) g ≡ lies_in t.groups (home_of t k) g) → (cpus : List (Option ℕ)) → cpus_in u g cpus ≡ cpus_in t g cpus
cpus_same t u g h [] = refl
cpus_same t u g h (o ∷ cpus) =
    omega (arith, sum_by-cons (λ x. cond {A = ℕ} (runs_in u g x) 1 0) o cpus, sum_by-cons (λ x. cond {A = ℕ} (runs_in t g x) 1 0) o cpus, same o, cpus_same t u g h cpus)
  where
    same : (p : Option ℕ) → cond {A = ℕ} (runs_in u g p) 1 0 ≡ cond {A = ℕ} (runs_in t g p) 1 0
    same None = refl
    same (Some k) = ap (λ b. cond {A = ℕ} b 1 0) (h k)

-- usages that are within their quotas stay so as a group gets another weight
pub within_reweighed : (t : Hierarchy) (on : List (Option ℕ)) (g x : ℕ) → AreWithin t on → AreWithin (with_weight t g x) on
within_reweighed t on g x h k quota lt is =
    let there : k < length t.groups = omega (arith, lt, length-set t.groups g (record { parent = parent_of t.groups g; weight = x; quota_ms = quota_at t.groups g; period_ms = period_at t.groups g })) in
    let within : usage_of t k + cpus_in t k on < quota + length on = h k quota there (sym (quota_reweighed t.groups g x k) ∙ is) in
    let same : cpus_in (with_weight t g x) k on ≡ cpus_in t k on = cpus_same t (with_weight t g x) k (λ j. ap (λ ps. list_any (λ y. y == k) ps) (path_reweighed t.groups g x (home_of t j))) on in
    omega (arith, within, same)

-- a task's own weight changes no usage
pub within_own : (t : Hierarchy) (on : List (Option ℕ)) (k x : ℕ) → AreWithin t on → AreWithin (with_own_weight t k x) on
within_own t on k x h g quota lt is = h g quota lt is

any_same : (p q : ℕ → Bool) → ((x : ℕ) → p x ≡ q x) → (xs : List ℕ) → list_any p xs ≡ list_any q xs
any_same p q h [] = refl
any_same p q h (x ∷ xs) = ap (λ b. b || list_any p xs) (h x) ∙ ap (λ b. q x || b) (any_same p q h xs)

-- and who is throttled
pub throttled_reweighed : (t : Hierarchy) (g x k : ℕ) → is_throttled (with_weight t g x) k ≡ is_throttled t k
throttled_reweighed t g x k =
    ap (λ ps. list_any (λ j. is_throttled_group (with_weight t g x) j) ps) (path_reweighed t.groups g x (home_of t k))
    ∙ any_same (λ j. is_throttled_group (with_weight t g x) j) (λ j. is_throttled_group t j) (λ j. ap (λ o. is_used_up o (usage_of t j)) (quota_reweighed t.groups g x j)) (path t.groups (home_of t k))

-- ---- at first

nobody_runs : (t : Hierarchy) (g n : ℕ) → cpus_in t g (replicate n None) ≡ 0
nobody_runs t g zero = refl
nobody_runs t g (suc n) = nobody_runs t g n

-- a period of each group begins at the clock 0
none_used : (t : Hierarchy) (g : ℕ) → g < length t.groups → usage_of (with_turn t 0) g ≡ 0
none_used t g l = usage_turned t 0 g l ∙ ap (λ b. cond b 0 (usage_of t g)) (eq-eqb (0 % period_at t.groups g) 0 (zero-mod (period_at t.groups g)))

-- at first, as periods begin and nobody runs, all usages are within their quotas
pub within_first : (t : Hierarchy) (cpus : ℕ) → 0 < cpus → AreWithin (with_turn t 0) (replicate cpus None)
within_first t cpus some g quota lt is =
    let none : usage_of (with_turn t 0) g ≡ 0 = none_used t g lt in
    let nobody : cpus_in (with_turn t 0) g (replicate cpus None) ≡ 0 = nobody_runs (with_turn t 0) g cpus in
    let many : length {A = Option ℕ} (replicate cpus None) ≡ cpus = length-replicate {A = Option ℕ} cpus None in
    omega (arith, none, nobody, many, some)

-- ---- how much was used

each : (f : ℕ → ℕ) (m n g : ℕ) → (g < m → f g ≤ n) → get_or (map f (range_with_len 0 m)) g 0 ≤ n
each f m n g h = go (cases_lt g m)
  where
    go : (g < m) ⊎ (m ≤ g) → get_or (map f (range_with_len 0 m)) g 0 ≤ n
    go (inl l) = let here : get_or (map f (range_with_len 0 m)) g 0 ≡ f g = get_or-map-range_with_len f 0 m g g 0 l (omega arith) in omega (arith, here, h l)
    go (inr past) =
        let none : get_or (map f (range_with_len 0 m)) g 0 ≡ 0 = get_or_past (map f (range_with_len 0 m)) g 0 (omega (arith, past, length-map-range_with_len f 0 m)) in
        omega (arith, none)

one_more : (b : Bool) (k n : ℕ) → k ≤ n → k + cond b 1 0 ≤ n + 1
one_more true k n l = omega (arith, l)
one_more false k n l = omega (arith, l)

none_or : (b : Bool) (k n : ℕ) → k ≤ n → cond b 0 k ≤ n
none_or true k n l = omega arith
none_or false k n l = l

-- a millisecond more
pub most_used : (t : Hierarchy) (k n : ℕ) → ((g : ℕ) → usage_of t g ≤ n) → (g : ℕ) → usage_of (with_use t k) g ≤ n + 1
most_used t k n h g = each (λ x. usage_of t x + cond (lies_in t.groups (home_of t k) x) 1 0) (length t.groups) (n + 1) g (λ l. one_more (lies_in t.groups (home_of t k) g) (usage_of t g) n (h g))

-- no more where periods begin
pub most_turned : (t : Hierarchy) (clock n : ℕ) → ((g : ℕ) → usage_of t g ≤ n) → (g : ℕ) → usage_of (with_turn t clock) g ≤ n
most_turned t clock n h g = each (λ x. cond (begins_period t x clock) 0 (usage_of t x)) (length t.groups) n g (λ l. none_or (begins_period t g clock) (usage_of t g) n (h g))

-- none at first
pub most_first : (t : Hierarchy) (g : ℕ) → usage_of (with_turn t 0) g ≤ 0
most_first t g = each (λ x. cond (begins_period t x 0) 0 (usage_of t x)) (length t.groups) 0 g (λ l. let none : usage_of (with_turn t 0) g ≡ 0 = none_used t g l in let turned : usage_of (with_turn t 0) g ≡ cond (begins_period t g 0) 0 (usage_of t g) = usage_turned t 0 g l in omega (arith, none, turned))

-- ---- what follows between two events

-- each usage is below its quota plus the number of processors
pub are_bounded : (w : WorldState) → AreWithin w.tree w.cpus → AreBounded w
are_bounded w h g quota is = go (cases_lt g (length w.tree.groups))
  where
    go : (g < length w.tree.groups) ⊎ (length w.tree.groups ≤ g) → usage_of w.tree g < quota + length w.cpus
    go (inl l) = let within : usage_of w.tree g + cpus_in w.tree g w.cpus < quota + length w.cpus = h g quota l is in omega (arith, within)
    go (inr past) = let none : quota_at w.tree.groups g ≡ None = no_quota w.tree.groups g past in absurd (cc)
