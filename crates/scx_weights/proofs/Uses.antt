-- What groups have used, after tasks ran for some milliseconds one after another.
use Rattle.std.proofs.Common.{◌≡◌, ℕ, ◌+◌, ◌<◌, Bool, true, false, cond, List, length, get_or, refl, sym, ap, ◌∙◌, arith}
use Rattle.std.proofs.lemmas.List.FromFn.{length-map-range_with_len}
use Rattle.scx_weights.specs.Hierarchy.{Hierarchy, lies_in, home_of}
use Rattle.scx_weights.specs.Limits.{for_each_group, usage_of, begins_period, with_uses, with_turn}
use Rattle.scx_weights.proofs.Usages.{usage_used_for}
use Rattle.scx_weights.proofs.Used.{numbers_are}

-- as many numbers as groups
pub length-uses : (t : Hierarchy) (f : ℕ → ℕ) → length (for_each_group t f) ≡ length t.groups
length-uses t f = length-map-range_with_len f 0 (length t.groups)

-- a task that ran for one number of milliseconds and then for another
pub uses_more : (t : Hierarchy) (k n m : ℕ) → with_uses (with_uses t k n) k m ≡ with_uses t k (m + n)
uses_more t k n m =
    ap (λ us. record t { usages = us })
    (numbers_are t (λ g. usage_of t g + cond (lies_in t.groups (home_of t k) g) (m + n) 0) (with_uses (with_uses t k n) k m).usages
    (length-uses t _)
    (λ g lt.
    let first : usage_of (with_uses t k n) g ≡ usage_of t g + cond (lies_in t.groups (home_of t k) g) n 0 = usage_used_for t k n g lt in
    let second : usage_of (with_uses (with_uses t k n) k m) g ≡ usage_of (with_uses t k n) g + cond (lies_in t.groups (home_of t k) g) m 0 = usage_used_for (with_uses t k n) k m g lt in
    omega (arith, first, second, both (lies_in t.groups (home_of t k) g))))
  where
    both : (b : Bool) → cond {A = ℕ} b n 0 + cond b m 0 ≡ cond b (m + n) 0
    both true = omega arith
    both false = refl

-- two tasks, in either order
pub uses_swap : (t : Hierarchy) (k j n m : ℕ) → with_uses (with_uses t k n) j m ≡ with_uses (with_uses t j m) k n
uses_swap t k j n m =
    ap (λ us. record t { usages = us })
    (numbers_are t (λ g. usage_of (with_uses t j m) g + cond (lies_in t.groups (home_of t k) g) n 0) (with_uses (with_uses t k n) j m).usages
    (length-uses t _)
    (λ g lt.
    let first : usage_of (with_uses t k n) g ≡ usage_of t g + cond (lies_in t.groups (home_of t k) g) n 0 = usage_used_for t k n g lt in
    let second : usage_of (with_uses (with_uses t k n) j m) g ≡ usage_of (with_uses t k n) g + cond (lies_in t.groups (home_of t j) g) m 0 = usage_used_for (with_uses t k n) j m g lt in
    let other : usage_of (with_uses t j m) g ≡ usage_of t g + cond (lies_in t.groups (home_of t j) g) m 0 = usage_used_for t j m g lt in
    omega (arith, first, second, other)))

-- where no period begins the clock changes nothing
pub turn_none : (t : Hierarchy) (clock : ℕ) → length t.usages ≡ length t.groups → ((g : ℕ) → g < length t.groups → begins_period t g clock ≡ false) → with_turn t clock ≡ t
turn_none t clock same none =
    ap (λ us. record t { usages = us })
    (sym (numbers_are t (λ g. cond (begins_period t g clock) 0 (usage_of t g)) t.usages same (λ g lt. ap (λ b. cond b 0 (usage_of t g)) (sym (none g lt)))))
