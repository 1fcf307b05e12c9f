-- A number that is added at each group of a way.
use Rattle.std.proofs.Common.{ℕ, ◌+◌, ◌-◌, ◌^◌, ◌<◌, ◌≤◌, ◌≡◌, Bool, true, false, cond, List, [], ◌∷◌, length, get_or, set, Option, None, Some, refl, sym, ap, ◌∙◌, subst, arith, ⊎_elim}
use Rattle.std.proofs.lemmas.Bool.{cases_eq}
use Rattle.std.proofs.lemmas.List.{get_or-set_same, get_or-set_other}
use Rattle.scx_weights.specs.declared.group.Group.{Group}
use Rattle.scx_weights.specs.Hierarchy.{parent_of, upward}
use Rattle.scx_weights.specs.RunningSums.{IsForest}
use Rattle.scx_weights.proofs.Paths.{among, touch, touch_head, touch_tail, upward-none, way_splits, way_here}

-- so much for one of these, else nothing
abbrev pub gain : ℕ → ℕ → List ℕ → ℕ
gain ms g gs = cond (among g gs) ms 0

-- what counts in two parts gains in two parts
parts_gain : (a b c : Bool) (ms : ℕ) → cond {A = ℕ} a 1 0 ≡ cond b 1 0 + cond c 1 0 → cond {A = ℕ} a ms 0 ≡ cond b ms 0 + cond c ms 0
parts_gain true true true ms e = absurd (omega (arith, e))
parts_gain true true false ms e = omega arith
parts_gain true false true ms e = omega arith
parts_gain true false false ms e = absurd (omega (arith, e))
parts_gain false true true ms e = absurd (omega (arith, e))
parts_gain false true false ms e = absurd (omega (arith, e))
parts_gain false false true ms e = absurd (omega (arith, e))
parts_gain false false false ms e = omega arith

-- what counts once gains all
gain_one : (ms g : ℕ) (gs : List ℕ) → touch g gs ≡ 1 → gain ms g gs ≡ ms
gain_one ms g gs e = which (among g gs) e
  where
    which : (b : Bool) → cond {A = ℕ} b 1 0 ≡ 1 → cond {A = ℕ} b ms 0 ≡ ms
    which true e = refl
    which false e = absurd (omega (arith, e))

-- what doesn't count gains nothing
gain_none : (ms g : ℕ) (gs : List ℕ) → touch g gs ≡ 0 → gain ms g gs ≡ 0
gain_none ms g gs e = which (among g gs) e
  where
    which : (b : Bool) → cond {A = ℕ} b 1 0 ≡ 0 → cond {A = ℕ} b ms 0 ≡ 0
    which true e = absurd (omega (arith, e))
    which false e = refl

-- so much is added at one group
add_more : (used : List ℕ) (x g ms : ℕ) → x < length used → get_or (set used x (get_or used x 0 + ms)) g 0 ≡ get_or used g 0 + gain ms g (x ∷ [])
add_more used x g ms lt =
    ⊎_elim
    (λ (e : g ≡ x).
    let P : ℕ → Type 0 = λ y. get_or (set used x (get_or used x 0 + ms)) y 0 ≡ get_or used y 0 + gain ms y (x ∷ []) in
    let all : gain ms x (x ∷ []) ≡ ms = gain_one ms x (x ∷ []) (touch_head x []) in
    let now : get_or (set used x (get_or used x 0 + ms)) x 0 ≡ get_or used x 0 + ms = get_or-set_same used x (get_or used x 0 + ms) 0 lt in
    let here : P x = omega (arith, all, now) in
    subst P (sym e) here)
    (λ (e : g ≡ x → ⊥).
    let none : gain ms g (x ∷ []) ≡ 0 = gain_none ms g (x ∷ []) (touch_tail x g [] e) in
    let same : get_or (set used x (get_or used x 0 + ms)) g 0 ≡ get_or used g 0 = get_or-set_other used x g (get_or used x 0 + ms) 0 e in
    omega (arith, none, same))
    (cases_eq g x)

-- past the top nothing is gained
pub gain_over : (groups : List Group) (ms n g : ℕ) (at : Option ℕ) → at ≡ None → gain ms g (upward groups n at) ≡ 0
gain_over groups ms n g at is = ap (λ a. gain ms g (upward groups n a)) is ∙ ap (λ gs. gain ms g gs) (upward-none groups n)

-- the group at hand gains all
pub gain_here : (groups : List Group) (ms i x : ℕ) (at : Option ℕ) → i < 3 → at ≡ Some x → gain ms x (upward groups (3 - i) at) ≡ ms
gain_here groups ms i x at lt is =
    ap (λ a. gain ms x (upward groups (3 - i) a)) is ∙ gain_one ms x (upward groups (3 - i) (Some x)) (way_here groups i x lt)

-- a step of the way adds at one group
pub add_walk : (groups : List Group) (forest : IsForest groups) (now next : List ℕ) (totals : ℕ → ℕ) (ms i x : ℕ) (at at' : Option ℕ)
    → i < 3 → length now ≡ length groups → x < length groups → at ≡ Some x → at' ≡ parent_of groups x → next ≡ set now x (get_or now x 0 + ms)
    → ((g : ℕ) → g < length groups → get_or now g 0 + gain ms g (upward groups (3 - i) at) ≡ totals g)
    → (g : ℕ) → g < length groups → get_or next g 0 + gain ms g (upward groups (3 - (i + 1)) at') ≡ totals g
add_walk groups forest now next totals ms i x at at' lt same_length within is parent written so_far g g_lt =
    let here : get_or now g 0 + gain ms g (upward groups (3 - i) (Some x)) ≡ totals g =
    subst (λ (a : Option ℕ). get_or now g 0 + gain ms g (upward groups (3 - i) a) ≡ totals g) is (so_far g g_lt) in
    let rest : List ℕ = upward groups (3 - (i + 1)) (parent_of groups x) in
    let parts : gain ms g (upward groups (3 - i) (Some x)) ≡ gain ms g (x ∷ []) + gain ms g rest =
    parts_gain (among g (upward groups (3 - i) (Some x))) (among g (x ∷ [])) (among g rest) ms (way_splits groups forest i x g lt) in
    let more : get_or (set now x (get_or now x 0 + ms)) g 0 ≡ get_or now g 0 + gain ms g (x ∷ []) = add_more now x g ms (omega (arith, same_length, within)) in
    let there : get_or next g 0 ≡ get_or (set now x (get_or now x 0 + ms)) g 0 = ap (λ us. get_or us g 0) written in
    let left : gain ms g (upward groups (3 - (i + 1)) at') ≡ gain ms g rest = ap (λ a. gain ms g (upward groups (3 - (i + 1)) a)) parent in
    omega (arith, here, parts, more, there, left)

-- a list that is only added to doesn't lose
pub added_step : (now next start : List ℕ) (x ms : ℕ) → x < length now → next ≡ set now x (get_or now x 0 + ms)
    → ((g : ℕ) → get_or start g 0 ≤ get_or now g 0) → (g : ℕ) → get_or start g 0 ≤ get_or next g 0
added_step now next start x ms lt written grown g =
    let more : get_or (set now x (get_or now x 0 + ms)) g 0 ≡ get_or now g 0 + gain ms g (x ∷ []) = add_more now x g ms lt in
    let is : get_or next g 0 ≡ get_or (set now x (get_or now x 0 + ms)) g 0 = ap (λ us. get_or us g 0) written in
    omega (arith, more, is, grown g)

-- there is room for what is added, on the way by what was there, and elsewhere since nothing is added
pub add_room : (b : Bool) (now ms start : ℕ) → now + ms ≡ start + cond b ms 0 → start ≤ now → now < 2 ^ 64 → (b ≡ true → start + ms < 2 ^ 64) → now + ms < 2 ^ 64
add_room true now ms start sum grown small room = omega (arith, sum, room refl)
add_room false now ms start sum grown small room = omega (arith, sum, grown, small)
