-- The usage of one group as tasks run and the clock grows.
use Rattle.std.proofs.Common.{ℕ, ◌+◌, ◌<◌, ◌≤◌, ◌≡◌, Bool, true, false, cond, leb, List, length, Option, None, Some, refl, sym, ap, ◌∙◌, arith}
use Rattle.std.proofs.lemmas.Bool.{leb-true, leb-false}
use Rattle.std.proofs.lemmas.List.{get_or_past}
use Rattle.std.proofs.lemmas.List.FromFn.{get_or-map-range_with_len}
use Rattle.scx_weights.specs.declared.group.Group.{Group}
use Rattle.scx_weights.specs.Hierarchy.{Hierarchy, quota_at, lies_in, home_of}
use Rattle.scx_weights.specs.Limits.{usage_of, is_used_up, begins_period, with_use, with_uses, with_turn}

-- a task ran
pub usage_used : (t : Hierarchy) (k g : ℕ) → g < length t.groups
    → usage_of (with_use t k) g ≡ usage_of t g + cond (lies_in t.groups (home_of t k) g) 1 0
usage_used t k g lt =
    get_or-map-range_with_len (λ x. usage_of t x + cond (lies_in t.groups (home_of t k) x) 1 0) 0 (length t.groups) g g 0 lt (omega arith)

-- for some milliseconds
pub usage_used_for : (t : Hierarchy) (k n g : ℕ) → g < length t.groups
    → usage_of (with_uses t k n) g ≡ usage_of t g + cond (lies_in t.groups (home_of t k) g) n 0
usage_used_for t k n g lt =
    get_or-map-range_with_len (λ x. usage_of t x + cond (lies_in t.groups (home_of t k) x) n 0) 0 (length t.groups) g g 0 lt (omega arith)

-- the clock grew
pub usage_turned : (t : Hierarchy) (clock g : ℕ) → g < length t.groups
    → usage_of (with_turn t clock) g ≡ cond (begins_period t g clock) 0 (usage_of t g)
usage_turned t clock g lt =
    get_or-map-range_with_len (λ x. cond (begins_period t x clock) 0 (usage_of t x)) 0 (length t.groups) g g 0 lt (omega arith)

-- a group that isn't there has no quota
pub no_quota : (groups : List Group) (g : ℕ) → length groups ≤ g → quota_at groups g ≡ None
no_quota groups g le = ap (λ (x : Group). x.quota_ms) (get_or_past groups g (record { parent = None; weight = 0; quota_ms = None; period_ms = 0 }) le)

-- more is used up where less is
pub used_up_grows : (quota : Option ℕ) (less more : ℕ) → less ≤ more → is_used_up quota less ≡ true → is_used_up quota more ≡ true
used_up_grows None less more le e = absurd (cc)
used_up_grows (Some quota) less more le e =
    let here : quota ≤ less = leb-true quota less e in
    more_is (leb quota more) refl (omega (arith, here, le))
  where
    more_is : (b : Bool) → leb quota more ≡ b → quota ≤ more → b ≡ true
    more_is true is known = refl
    more_is false is known = let past : more < quota = leb-false quota more is in absurd (omega (arith, past, known))

-- of a quota that isn't used up something is left
pub something_left : (quota used : ℕ) (at : Option ℕ) → at ≡ Some quota → is_used_up at used ≡ false → used < quota
something_left quota used at is e = leb-false quota used (ap (λ o. is_used_up o used) (sym is) ∙ e)
