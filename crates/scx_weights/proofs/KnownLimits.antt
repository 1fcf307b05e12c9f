-- What a tree knows of all its groups' limits: a number that divides the periods, and whether there is a quota.
use Rattle.std.specs.Int.{◌∣◌}
use Rattle.std.specs.List.{list_any}
use Rattle.std.proofs.lemmas.Bool.{cases_eq, cases_lt, ne_eqb}
use Rattle.std.proofs.lemmas.Nat.Gcd.{dvd_trans, dvd_of_mod-eq-zero, mod-eq-zero_of_dvd}
use Rattle.std.proofs.lemmas.Nat.{div-add-mod', mod-mul-add}
use Rattle.std.proofs.lemmas.List.{get_or_read, get_or_past}
use Rattle.std.proofs.Common.{◌≡◌, ℕ, zero, suc, ◌+◌, ◌-◌, ◌*◌, ◌/◌, ◌^◌, min, max, ◌⊎◌, inl, inr, ◌<◌, ◌≤◌, ◌%◌, false, List, [], ◌∷◌, length, get_or, set, Bool, Option, None, Some, is_some, ⊎_elim, refl, ap, ◌∙◌, sym, subst, arith}
use Rattle.scx_weights.specs.declared.group.Group.{Group}
use Rattle.scx_weights.specs.Hierarchy.{Hierarchy, path, home_of, parent_of, quota_at, period_at, group_at}
use Rattle.scx_weights.specs.Limits.{is_used_up, has_quota, is_throttled, NoneBegins}
use Rattle.scx_weights.specs.RunningSums.{KnowsLimits}
use Rattle.scx_weights.proofs.Admitted.{none_at}
use Rattle.scx_weights.proofs.Reweighed.{period_reweighed, length-reweighed}

abbrev no_group : Group
no_group = record { parent = None; weight = 0; quota_ms = None; period_ms = 0 }

-- where the beat doesn't divide the clock no period begins
pub none_begins : (beat p clock : ℕ) → beat ∣ p → (clock % beat ≡ 0 → ⊥) → (clock % p ≡ 0 → ⊥)
none_begins beat p clock d off on = off (mod-eq-zero_of_dvd beat (dvd_trans beat d (dvd_of_mod-eq-zero p on)))

-- so none begins between two clocks between which there is no multiple of the beat
pub none_between : (t : Hierarchy) (beat since next from to : ℕ) (limited : Bool) → KnowsLimits t.groups beat since next limited
    → ((late : ℕ) → from < late → late < to → (since < late) × (late < next)) → NoneBegins t from to
none_between t beat since next from to limited knows within clock g gt lt there =
    let is = within clock gt lt in
    ne_eqb (clock % period_at t.groups g) 0 (none_begins beat (period_at t.groups g) clock (knows.divides g there) (knows.quiet clock is.0 is.1))

-- after a multiple of the beat there is no other up to the next
pub quiet_after : (beat since next : ℕ) → since % beat ≡ 0 → next ≡ min (since + beat) (2 ^ 64 - 1) → (clock : ℕ) → since < clock → clock < next → clock % beat ≡ 0 → ⊥
quiet_after beat since next on is clock gt lt whole =
    let more : clock - since < beat = omega (arith, is, gt, lt) in
    let times : since / beat * beat + since % beat ≡ since = div-add-mod' since beat in
    let sum : since / beat * beat + (clock - since) ≡ clock = omega (arith, times, on, gt) in
    let rest : (since / beat * beat + (clock - since)) % beat ≡ clock - since = mod-mul-add (since / beat) beat (clock - since) more in
    let left : clock % beat ≡ clock - since = sym (ap (λ n. n % beat) sum) ∙ rest in
    omega (arith, left, whole, gt)

-- a test of a list asks the same where what is written passes as what was there
any_set : {X : Type 0} (test : X → Bool) (xs : List X) (g : ℕ) (y d : X) → g < length xs → test y ≡ test (get_or xs g d) → list_any test (set xs g y) ≡ list_any test xs
any_set test [] g y d lt e = absurd (omega (arith, lt))
any_set test (x ∷ xs) zero y d lt e = rw e refl
any_set test (x ∷ xs) (suc g) y d lt e = rw (any_set test xs g y d (omega (arith, lt)) e) refl

-- a weight that is written leaves all that as it is
pub limits_stay : (groups : List Group) (g w beat since next : ℕ) (limited : Bool) (had : Group) → g < length groups → had ≡ get_or groups g had → KnowsLimits groups beat since next limited
    → KnowsLimits (set groups g (record { parent = had.parent; weight = w; quota_ms = had.quota_ms; period_ms = had.period_ms })) beat since next limited
limits_stay groups g w beat since next limited had lt read is =
    let had_is : had ≡ group_at groups g = get_or_read groups g had lt read no_group in
    subst (λ (x : Group). KnowsLimits (set groups g (record { parent = x.parent; weight = w; quota_ms = x.quota_ms; period_ms = x.period_ms })) beat since next limited) (sym had_is)
    (record {
      some = is.some;
      divides = λ k k_lt. subst (λ n. beat ∣ n) (sym (period_reweighed groups g w k lt)) (is.divides k (omega (arith, length-reweighed groups g w, k_lt)));
      quiet = is.quiet;
      quotas = is.quotas ∙ sym (any_set (λ (x : Group). is_some x.quota_ms) groups g (record { parent = parent_of groups g; weight = w; quota_ms = quota_at groups g; period_ms = period_at groups g }) no_group lt refl);
    })

-- where no group has a quota each lacks one, past the end too
pub free_of : (groups : List Group) → has_quota groups ≡ false → (g : ℕ) → quota_at groups g ≡ None
free_of groups none g =
    ⊎_elim
    (λ (lt : g < length groups). none_is (quota_at groups g) (none_at (λ (group : Group). is_some group.quota_ms) groups g no_group none lt))
    (λ (le : length groups ≤ g). ap (λ (x : Group). x.quota_ms) (get_or_past groups g no_group le))
    (cases_lt g (length groups))
  where
    none_is : (o : Option ℕ) → is_some o ≡ false → o ≡ None
    none_is None e = refl
    none_is (Some x) e = absurd (cc)

-- what no element passes none of them passes
none_any : (test : ℕ → Bool) → ((x : ℕ) → test x ≡ false) → (xs : List ℕ) → list_any test xs ≡ false
none_any test none [] = refl
none_any test none (x ∷ xs) = rw (none x) (none_any test none xs)

-- where no group has a quota nobody is throttled
pub free_way : (groups : List Group) (used way : List ℕ) → has_quota groups ≡ false → list_any (λ g. is_used_up (quota_at groups g) (get_or used g 0)) way ≡ false
free_way groups used way none = none_any (λ g. is_used_up (quota_at groups g) (get_or used g 0)) (λ g. ap (λ o. is_used_up o (get_or used g 0)) (free_of groups none g)) way

-- where no group has a quota, no task is throttled
pub none_throttled : (t : Hierarchy) (k : ℕ) → has_quota t.groups ≡ false → is_throttled t k ≡ false
none_throttled t k none = free_way t.groups t.usages (path t.groups (home_of t k)) none

-- of one group more
pub one_more : (groups : List Group) (beat less n : ℕ) → ((g : ℕ) → g < n → beat ∣ period_at groups g) → less ∣ beat → less ∣ period_at groups n → (g : ℕ) → g < n + 1 → less ∣ period_at groups g
one_more groups beat less n before down here g lt = go (cases_eq g n)
  where
    go : (g ≡ n) ⊎ (g ≡ n → ⊥) → less ∣ period_at groups g
    go (inl is) = subst (λ x. less ∣ period_at groups x) (sym is) here
    go (inr other) = dvd_trans less down (before g (omega (arith, lt, other)))

-- it is 1 at least
pub least_one : (p beat : ℕ) → beat ∣ p → max beat 1 ∣ p
least_one p zero divides = let whole : p % 1 ≡ 0 = omega arith in dvd_of_mod-eq-zero 1 whole
least_one p (suc n) divides = let is : max (suc n) 1 ≡ suc n = omega arith in subst (λ x. x ∣ p) (sym is) divides
