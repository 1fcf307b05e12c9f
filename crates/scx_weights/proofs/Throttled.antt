-- Who is throttled stays so until a period begins.
use Rattle.std.proofs.Common.{ℕ, ◌+◌, ◌<◌, ◌≤◌, ◌≡◌, Bool, true, false, cond, List, [], ◌∷◌, length, ap, ◌∙◌, arith, ⊎_elim}
use Rattle.std.specs.List.{list_any}
use Rattle.std.proofs.lemmas.Bool.{cases_lt, cases_Bool, or_cases, or_left, or_right, both_ways}
use Rattle.scx_weights.specs.Hierarchy.{Hierarchy, quota_at, path, lies_in, home_of}
use Rattle.scx_weights.specs.Limits.{usage_of, is_used_up, is_throttled_group, is_throttled, begins_period, with_use, with_uses, with_turn}
use Rattle.scx_weights.specs.QuotaLaws.{UsesKeepThrottled, ClocksKeepThrottled, ClocksThrottleNobody}
use Rattle.scx_weights.proofs.Usages.{usage_used, usage_used_for, usage_turned, no_quota, used_up_grows}

any_grows : (p q : ℕ → Bool) → ((x : ℕ) → p x ≡ true → q x ≡ true) → (xs : List ℕ) → list_any p xs ≡ true → list_any q xs ≡ true
any_grows p q grows [] e = absurd (cc)
any_grows p q grows (x ∷ xs) e =
    ⊎_elim
    (λ (here : p x ≡ true). or_left (q x) (list_any q xs) (grows x here))
    (λ (later : list_any p xs ≡ true). or_right (q x) (list_any q xs) (any_grows p q grows xs later))
    (or_cases (p x) (list_any p xs) e)

-- a group that is throttled is there
pub there : (t : Hierarchy) (g : ℕ) → is_throttled_group t g ≡ true → g < length t.groups
there t g e =
    ⊎_elim
    (λ (lt : g < length t.groups). lt)
    (λ (le : length t.groups ≤ g).
    let never : is_throttled_group t g ≡ false = ap (λ o. is_used_up o (usage_of t g)) (no_quota t.groups g le) in
    absurd (both_ways (is_throttled_group t g) never e))
    (cases_lt g (length t.groups))

-- a throttled task stays so, whoever runs for a ms
pub uses_keep_throttled : UsesKeepThrottled
uses_keep_throttled t k j e =
    any_grows (λ g. is_throttled_group t g) (λ g. is_throttled_group (with_use t j) g) still (path t.groups (home_of t k)) e
  where
    still : (g : ℕ) → is_throttled_group t g ≡ true → is_throttled_group (with_use t j) g ≡ true
    still g was =
        let more : usage_of (with_use t j) g ≡ usage_of t g + cond (lies_in t.groups (home_of t j) g) 1 0 = usage_used t j g (there t g was) in
        used_up_grows (quota_at t.groups g) (usage_of t g) (usage_of (with_use t j) g) (omega (arith, more)) was

-- nor does it change if one runs for some
pub many_keep_throttled : (t : Hierarchy) (k j n : ℕ) → is_throttled t k ≡ true → is_throttled (with_uses t j n) k ≡ true
many_keep_throttled t k j n e =
    any_grows (λ g. is_throttled_group t g) (λ g. is_throttled_group (with_uses t j n) g) still (path t.groups (home_of t k)) e
  where
    still : (g : ℕ) → is_throttled_group t g ≡ true → is_throttled_group (with_uses t j n) g ≡ true
    still g was =
        let more : usage_of (with_uses t j n) g ≡ usage_of t g + cond (lies_in t.groups (home_of t j) g) n 0 = usage_used_for t j n g (there t g was) in
        used_up_grows (quota_at t.groups g) (usage_of t g) (usage_of (with_uses t j n) g) (omega (arith, more)) was

-- where no period of a throttled group begins
pub clocks_keep_throttled : ClocksKeepThrottled
clocks_keep_throttled t k clock none e =
    any_grows (λ g. is_throttled_group t g) (λ g. is_throttled_group (with_turn t clock) g) still (path t.groups (home_of t k)) e
  where
    still : (g : ℕ) → is_throttled_group t g ≡ true → is_throttled_group (with_turn t clock) g ≡ true
    still g was =
        let turned : usage_of (with_turn t clock) g ≡ cond (begins_period t g clock) 0 (usage_of t g) = usage_turned t clock g (there t g was) in
        let same : usage_of (with_turn t clock) g ≡ usage_of t g = turned ∙ ap (λ b. cond b 0 (usage_of t g)) (none g was) in
        ap (λ n. is_used_up (quota_at t.groups g) n) same ∙ was

-- a task that isn't throttled stays so, whatever the clock comes to show
pub clocks_throttle_nobody : ClocksThrottleNobody
clocks_throttle_nobody t k clock e =
    ⊎_elim
    (λ (now : is_throttled (with_turn t clock) k ≡ true).
    absurd (both_ways (is_throttled t k) e (any_grows (λ g. is_throttled_group (with_turn t clock) g) (λ g. is_throttled_group t g) before (path t.groups (home_of t k)) now)))
    (λ (now : is_throttled (with_turn t clock) k ≡ false). now)
    (cases_Bool (is_throttled (with_turn t clock) k))
  where
    less : (b : Bool) (n : ℕ) → cond b 0 n ≤ n
    less true n = omega arith
    less false n = omega arith

    before : (g : ℕ) → is_throttled_group (with_turn t clock) g ≡ true → is_throttled_group t g ≡ true
    before g now =
        let turned : usage_of (with_turn t clock) g ≡ cond (begins_period t g clock) 0 (usage_of t g) = usage_turned t clock g (there (with_turn t clock) g now) in
        let most : cond (begins_period t g clock) 0 (usage_of t g) ≤ usage_of t g = less (begins_period t g clock) (usage_of t g) in
        used_up_grows (quota_at t.groups g) (usage_of (with_turn t clock) g) (usage_of t g) (omega (arith, turned, most)) now
