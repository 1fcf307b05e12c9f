-- A group that is freed may run again.
use Rattle.std.proofs.Common.{◌≡◌, ℕ, zero, suc, ◌<◌, ◌≤◌, ◌&&◌, ◌||◌, Bool, true, false, not, cond, length, get_or, Option, None, Some, refl, sym, ap, ◌∙◌, ⊎_elim, arith}
use Rattle.std.proofs.lemmas.Bool.{cases_lt, cases_Bool, or_parts, leb-true}
use Rattle.std.proofs.lemmas.List.{get_or_past}
use Rattle.std.proofs.lemmas.List.FromFn.{get_or-map-range_with_len}
use Rattle.scx_weights.specs.declared.group.Group.{Group}
use Rattle.scx_weights.specs.Hierarchy.{quota_at, period_at}
use Rattle.scx_weights.specs.Limits.{is_used_up, usage_of, begins_period, with_turn}
use Rattle.scx_weights.specs.Refusals.{is_bad_quota, is_outside, max_period}
use Rattle.scx_weights.specs.Laws.{FreedAreFree}
use Rattle.scx_weights.proofs.Admitted.{none_at}

abbrev no_group : Group
no_group = record { parent = None; weight = 0; quota_ms = None; period_ms = 0 }

-- nothing isn't all of a quota in its range
none_used : (quota : Option ℕ) → is_bad_quota quota ≡ false → is_used_up quota 0 ≡ false
none_used None sound = refl
none_used (Some zero) sound = absurd (cc)
none_used (Some (suc q)) sound =
    ⊎_elim
    (λ (e : is_used_up (Some (suc q)) 0 ≡ true). let less : suc q ≤ 0 = leb-true (suc q) 0 e in absurd (omega (arith, less)))
    (λ (e : is_used_up (Some (suc q)) 0 ≡ false). e)
    (cases_Bool (is_used_up (Some (suc q)) 0))

-- a group that has used up its quota is free after the turn exactly where its period begins
free_after : (quota : Option ℕ) (used now : ℕ) (begins : Bool) → is_bad_quota quota ≡ false → now ≡ cond begins 0 used
    → (is_used_up quota used && begins) ≡ (is_used_up quota used && not (is_used_up quota now))
free_after quota used now true sound is =
    let free : is_used_up quota now ≡ false = ap (λ n. is_used_up quota n) is ∙ none_used quota sound in
    sym (ap (λ b. is_used_up quota used && not b) free)
free_after quota used now false sound is = never (is_used_up quota used) ∙ sym (ap (λ n. is_used_up quota used && not (is_used_up quota n)) is)
  where
    never : (b : Bool) → (b && false) ≡ (b && not b)
    never true = refl
    never false = refl

-- a group that isn't there is never freed
not_there : (quota : Option ℕ) (used now : ℕ) (begins : Bool) → quota ≡ None → (is_used_up quota used && begins) ≡ (is_used_up quota used && not (is_used_up quota now))
not_there None used now begins e = refl
not_there (Some q) used now begins e = absurd (cc)

pub freed_are_free_lem : FreedAreFree
freed_are_free_lem t clock g sound =
    ⊎_elim
    (λ (lt : g < length t.groups).
    let both = or_parts (is_bad_quota (get_or t.groups g no_group).quota_ms) (is_outside max_period (period_at t.groups g))
    (none_at (λ (x : Group). is_bad_quota x.quota_ms || is_outside max_period x.period_ms) t.groups g no_group sound lt) in
    let turned : usage_of (with_turn t clock) g ≡ cond (begins_period t g clock) 0 (usage_of t g) =
    get_or-map-range_with_len (λ x. cond (begins_period t x clock) 0 (usage_of t x)) 0 (length t.groups) g g 0 lt (omega arith) in
    free_after (quota_at t.groups g) (usage_of t g) (usage_of (with_turn t clock) g) (begins_period t g clock) both.0 turned)
    (λ (le : length t.groups ≤ g).
    not_there (quota_at t.groups g) (usage_of t g) (usage_of (with_turn t clock) g) (begins_period t g clock) (ap (λ (x : Group). x.quota_ms) (get_or_past t.groups g no_group le)))
    (cases_lt g (length t.groups))
