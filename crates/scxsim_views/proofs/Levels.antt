-- The level at which a family shares an amount is found step by step.
use Rattle.std.proofs.Common.{◌≡◌, ℕ, zero, suc, ◌+◌, ◌-◌, ◌*◌, ◌/◌, ◌<◌, ◌≤◌, min, true, false, cond, ltb, leb, Bool, List, set, length, refl, sym, ap, subst, ◌∙◌, arith, add-one, ◌⊎◌, inl, inr}
use Rattle.std.proofs.Math.Nat.{mul-add, add-mul, mul-le-mul_left, le-mul_of_pos_right, div-mul-le_self, div-le_self, mul_comm, mul_assoc, mul-le-mul_right}
use Rattle.std.proofs.lemmas.Bool.{cases_lt, lt-ltb, le-ltb, le-leb, eq-eqb}
use Rattle.scx_weights.specs.Counting.{sum_below}
use Rattle.scxsim_views.specs.declared.claims.Claim.{Claim}
use Rattle.std.specs.Prelude.{slice_get}
use Rattle.scxsim_views.specs.declared.quotas.QuotaFigures.{QuotaFigures}
use Rattle.scxsim_views.specs.Claims.{claim_at, weight_in, takes, taken, open_weight, open_weights, all_roomy, roomy, due, level_at, more_at, with_dues, DuesAreFair, IsStep}

-- ---- sums

-- one number more
pub sum_more : (n : ℕ) (f : ℕ → ℕ) → sum_below (n + 1) f ≡ sum_below n f + f n
sum_more n f = rw add-one refl

-- a sum is no greater than another and what is added to each of its numbers
sum_le : (n d : ℕ) (f g h : ℕ → ℕ) → ((k : ℕ) → f k ≤ g k + h k * d) → sum_below n f ≤ sum_below n g + sum_below n h * d
sum_le zero d f g h each = omega arith
sum_le (suc n) d f g h each =
    let front : sum_below n f ≤ sum_below n g + sum_below n h * d = sum_le n d f g h each in
    let here : f n ≤ g n + h n * d = each n in
    let both : (sum_below n h + h n) * d ≡ sum_below n h * d + h n * d = add-mul (sum_below n h) (h n) d in
    omega (arith, front, here, both)

-- a sum of no greater numbers is no greater
sum_least : (n : ℕ) (f g : ℕ → ℕ) → ((k : ℕ) → f k ≤ g k) → sum_below n f ≤ sum_below n g
sum_least zero f g each = omega arith
sum_least (suc n) f g each =
    let front : sum_below n f ≤ sum_below n g = sum_least n f g each in
    let here : f n ≤ g n = each n in
    omega (arith, front, here)

-- if no number is less, and one that is marked is greater, so is the sum
sum_lt : (n : ℕ) (f g h : ℕ → ℕ) → ((k : ℕ) → f k ≤ g k) → ((k : ℕ) → 0 < h k → f k < g k) → 0 < sum_below n h → sum_below n f < sum_below n g
sum_lt zero f g h each marked some = absurd (omega (arith, some))
sum_lt (suc n) f g h each marked some = go (cases_lt 0 (h n)) (λ front. sum_lt n f g h each marked front)
  where
    go : (0 < h n) ⊎ (h n ≤ 0) → (0 < sum_below n h → sum_below n f < sum_below n g) → sum_below (suc n) f < sum_below (suc n) g
    go (inl here) before =
        let front : sum_below n f ≤ sum_below n g = sum_least n f g each in
        let more : f n < g n = marked n here in
        omega (arith, front, more)
    go (inr none) before =
        let front : sum_below n f < sum_below n g = before (omega (arith, some, none)) in
        let here : f n ≤ g n = each n in
        omega (arith, front, here)

-- a sum is at least what a marked number is at least
sum_reaches : (n least : ℕ) (f h : ℕ → ℕ) → ((k : ℕ) → 0 < h k → least ≤ f k) → 0 < sum_below n h → least ≤ sum_below n f
sum_reaches zero least f h marked some = absurd (omega (arith, some))
sum_reaches (suc n) least f h marked some = go (cases_lt 0 (h n)) (λ front. sum_reaches n least f h marked front)
  where
    go : (0 < h n) ⊎ (h n ≤ 0) → (0 < sum_below n h → least ≤ sum_below n f) → least ≤ sum_below (suc n) f
    go (inl here) before =
        let there : least ≤ f n = marked n here in
        omega (arith, there)
    go (inr none) before =
        let front : least ≤ sum_below n f = before (omega (arith, some, none)) in
        omega (arith, front)

-- ---- one claim

-- at a higher level a group takes no more than its weight adds, if it has room for more, and else nothing
takes_more : (family level d : ℕ) (c : Claim) → takes family (level + d) c ≤ takes family level c + open_weight family level c * d
takes_more family level d c = go (weight_in family c) c.room (cases_lt (min c.room (weight_in family c * level)) c.room)
  where
    go : (w r : ℕ) → (min r (w * level) < r) ⊎ (r ≤ min r (w * level)) → min r (w * (level + d)) ≤ min r (w * level) + cond (ltb (min r (w * level)) r) w 0 * d
    go w r (inl room) =
        let both : w * (level + d) ≡ w * level + w * d = mul-add w level d in
        rw (lt-ltb (min r (w * level)) r room) (omega (arith, both, room))
    go w r (inr full) =
        rw (le-ltb (min r (w * level)) r full) (omega (arith, full))

-- at a higher level a group takes no less
takes_least : (family level d : ℕ) (c : Claim) → takes family level c ≤ takes family (level + d) c
takes_least family level d c =
    let both : weight_in family c * (level + d) ≡ weight_in family c * level + weight_in family c * d = mul-add (weight_in family c) level d in
    omega (arith, both)

-- with room for more it takes more
takes_open : (family level d : ℕ) (c : Claim) → 0 < d → 0 < open_weight family level c → takes family level c < takes family (level + d) c
takes_open family level d c up open' = go (weight_in family c) c.room (cases_lt (min c.room (weight_in family c * level)) c.room) open'
  where
    go : (w r : ℕ) → (min r (w * level) < r) ⊎ (r ≤ min r (w * level)) → 0 < cond (ltb (min r (w * level)) r) w 0 → min r (w * level) < min r (w * (level + d))
    go w r (inl room) some =
        let weight : 0 < w = rw (lt-ltb (min r (w * level)) r room) at some in
        let both : w * (level + d) ≡ w * level + w * d = mul-add w level d in
        let least : d ≤ d * w = le-mul_of_pos_right d weight in
        let turned : d * w ≡ w * d = mul_comm d w in
        omega (arith, both, room, least, turned, up)
    go w r (inr full) some = absurd (omega (arith, rw (le-ltb (min r (w * level)) r full) at some))

-- with room for more it takes at least the level
takes_level : (family level : ℕ) (c : Claim) → 0 < open_weight family level c → level ≤ takes family level c
takes_level family level c open' = go (weight_in family c) c.room (cases_lt (min c.room (weight_in family c * level)) c.room) open'
  where
    go : (w r : ℕ) → (min r (w * level) < r) ⊎ (r ≤ min r (w * level)) → 0 < cond (ltb (min r (w * level)) r) w 0 → level ≤ min r (w * level)
    go w r (inl room) some =
        let weight : 0 < w = rw (lt-ltb (min r (w * level)) r room) at some in
        let least : level ≤ level * w = le-mul_of_pos_right level weight in
        let turned : level * w ≡ w * level = mul_comm level w in
        omega (arith, room, least, turned)
    go w r (inr full) some = absurd (omega (arith, rw (le-ltb (min r (w * level)) r full) at some))

-- ---- a step

-- at a higher level a family takes no more than the weights add that are open
taken_more : (cs : List Claim) (family level d : ℕ) → taken cs family (level + d) ≤ taken cs family level + open_weights cs family level * d
taken_more cs family level d =
    sum_le (length cs) d _ _ _ (λ g. takes_more family level d (claim_at cs g))

-- the step that gives what is left by weight to those that have room for more
pub is_step : (cs : List Claim) (family amount level : ℕ) → taken cs family level < amount → 0 < open_weights cs family level
    → IsStep cs family amount level ((amount - taken cs family level - 1) / open_weights cs family level + 1)
is_step cs family amount level left some =
    let n : ℕ = taken cs family level in
    let w : ℕ = open_weights cs family level in
    let q : ℕ = (amount - n - 1) / w in
    let whole : q * w ≤ amount - n - 1 = div-mul-le_self (amount - n - 1) w in
    let small : q ≤ amount - n - 1 = div-le_self (amount - n - 1) w in
    let reached : level ≤ n = sum_reaches (length cs) level _ (λ g. open_weight family level (claim_at cs g)) (λ g. takes_level family level (claim_at cs g)) some in
    record {
      left = left;
      more = sum_lt (length cs) _ _ (λ g. open_weight family level (claim_at cs g)) (λ g. takes_least family level (q + 1) (claim_at cs g)) (λ g. takes_open family level (q + 1) (claim_at cs g) (omega arith)) some;
      within = omega (arith, small, reached, left);
      too_low = λ l least below. low q whole l least below;
    }
  where
    low : (q : ℕ) → q * open_weights cs family level ≤ amount - taken cs family level - 1 → (l : ℕ) → level ≤ l → l < level + (q + 1) → taken cs family l < amount
    low q whole l least below =
        let d : ℕ = l - level in
        let same : l ≡ level + d = omega (arith, least) in
        let above : taken cs family (level + d) ≤ taken cs family level + open_weights cs family level * d = taken_more cs family level d in
        let within : open_weights cs family level * d ≤ open_weights cs family level * q = mul-le-mul_left (open_weights cs family level) (omega (arith, least, below)) in
        let turned : open_weights cs family level * q ≡ q * open_weights cs family level = mul_comm (open_weights cs family level) q in
        subst (λ k. taken cs family k < amount) (sym same) (omega (arith, above, within, turned, whole, left))

-- ---- dues

-- no group is due more than it has room for
due_within : (cs : List Claim) (levels : List ℕ) (g : ℕ) → due cs levels g ≤ (claim_at cs g).room
due_within cs levels g = go (leb (claim_at cs g).family g) (claim_at cs g).room (weight_in (claim_at cs g).family (claim_at cs g) * level_at levels (claim_at cs g).family)
  where
    go : (b : Bool) (r n : ℕ) → cond b (min r n) 0 ≤ r
    go true r n = omega arith
    go false r n = omega arith

turn : (a b c : ℕ) → a * b * c ≡ c * b * a
turn a b c = ap (λ n. n * c) (mul_comm a b) ∙ mul_comm (b * a) c ∙ sym (mul_assoc c b a)

-- the same level, by weight or up to the room
full_if_less : (r s v w level : ℕ) → min r (v * level) * w < min s (w * level) * v → min r (v * level) ≡ r
full_if_less r s v w level less = go (cases_lt (v * level) r)
  where
    go : (v * level < r) ⊎ (r ≤ v * level) → min r (v * level) ≡ r
    go (inl room) =
        let first : min r (v * level) ≡ v * level = omega (arith, room) in
        let here : v * level * w < min s (w * level) * v = subst (λ n. n * w < min s (w * level) * v) first less in
        let there : min s (w * level) * v ≤ w * level * v = mul-le-mul_right v (omega arith) in
        let turned : w * level * v ≡ v * level * w = turn w level v in
        absurd (omega (arith, here, there, turned))
    go (inr full) = omega (arith, full)

-- one group more has its room
pub all_roomy_more : (n : ℕ) (qs : List QuotaFigures) (shares : List ℕ) (amount : ℕ) (cs : List Claim)
    → all_roomy (n + 1) qs shares amount cs
    ≡ set (all_roomy n qs shares amount cs) n (roomy (slice_get qs n) (slice_get shares n) amount (claim_at (all_roomy n qs shares amount cs) n))
all_roomy_more n qs shares amount cs = rw add-one refl

-- what is due to one group more
pub with_dues_more : (n : ℕ) (cs : List Claim) (levels xs : List ℕ) → with_dues (n + 1) cs levels xs ≡ more_at (with_dues n cs levels xs) n (due cs levels n)
with_dues_more n cs levels xs = rw add-one refl

-- what is due to a group whose parent comes before it
due_is : (cs : List Claim) (levels : List ℕ) (g f : ℕ) → (claim_at cs g).family ≡ f → f ≤ g
    → due cs levels g ≡ min (claim_at cs g).room ((claim_at cs g).weight * level_at levels f)
due_is cs levels g f same first = rw same (rw (le-leb f g first, eq-eqb f f refl) refl)

pub are_fair : DuesAreFair
are_fair cs levels = record {
  capped = λ g. due_within cs levels g;
  full = λ g h beside less.
      let f : ℕ = (claim_at cs g).family in
      let one : due cs levels g ≡ min (claim_at cs g).room ((claim_at cs g).weight * level_at levels f) = due_is cs levels g f refl beside.first in
      let other : due cs levels h ≡ min (claim_at cs h).room ((claim_at cs h).weight * level_at levels f) = due_is cs levels h f beside.family beside.second in
      one ∙ full_if_less (claim_at cs g).room (claim_at cs h).room (claim_at cs g).weight (claim_at cs h).weight (level_at levels f)
      (rw (one, other) at less);
}
