-- What groups use, number by number and as a list.
use Rattle.std.proofs.Common.{ℕ, ◌+◌, ◌-◌, ◌%◌, ◌<◌, ◌≡◌, ◌||◌, Bool, true, false, cond, eqb, List, length, get_or, Option, None, Some, sym, ap, ◌∙◌, subst, arith}
use Rattle.std.specs.List.{list_any}
use Rattle.std.proofs.lemmas.Bool.{ne_eqb}
use Rattle.std.proofs.lemmas.List.{ext_get_or, get_or_read}
use Rattle.std.proofs.lemmas.List.FromFn.{get_or-map-range_with_len, length-map-range_with_len}
use Rattle.scx_weights.specs.declared.group.Group.{Group}
use Rattle.scx_weights.specs.Hierarchy.{Hierarchy, parent_of, quota_at, period_at, upward, lies_in, home_of}
use Rattle.scx_weights.specs.Limits.{is_used_up, for_each_group, usage_of, with_uses, with_turn}
use Rattle.scx_weights.specs.RunningSums.{HasRunningSums}
use Rattle.scx_weights.proofs.Paths.{upward-none, upward_step}

-- a list that holds those numbers is that list
pub numbers_are : (t : Hierarchy) (f : ℕ → ℕ) (us : List ℕ) → length us ≡ length t.groups
    → ((g : ℕ) → g < length t.groups → get_or us g 0 ≡ f g) → us ≡ for_each_group t f
numbers_are t f us same each =
    ext_get_or 0 us (for_each_group t f) (same ∙ sym (length-map-range_with_len f 0 (length t.groups)))
    (λ i lt.
    let within : i < length t.groups = omega (arith, same, lt) in
    each i within ∙ sym (get_or-map-range_with_len f 0 (length t.groups) i i 0 within (omega arith)))

-- what is kept doesn't depend on what was used
pub kept_used : (t : Hierarchy) (counts weights us : List ℕ) → HasRunningSums t counts weights → length us ≡ length t.groups
    → HasRunningSums (record t { usages = us }) counts weights
kept_used t counts weights us kept same = record {
  forest = kept.forest;
  some_groups = kept.some_groups;
  some_tasks = kept.some_tasks;
  few_tasks = kept.few_tasks;
  active_length = kept.active_length;
  homes_in = kept.homes_in;
  leaves = kept.leaves;
  counted = kept.counted;
  adds_up = kept.adds_up;
  usages_length = same;
  periods = kept.periods;
}

-- a test of the way splits at the group at hand
pub any_step : (groups : List Group) (test : ℕ → Bool) (i x : ℕ) (at : Option ℕ) → i < 3 → at ≡ Some x
    → list_any test (upward groups (3 - i) at) ≡ (test x || list_any test (upward groups (3 - (i + 1)) (parent_of groups x)))
any_step groups test i x at lt is =
    ap (λ a. list_any test (upward groups (3 - i) a)) is ∙ ap (λ gs. list_any test gs) (upward_step groups i x lt)

-- the tree once milliseconds of a task were counted; `slice` and `home` as they are read
pub charged_is : (t u : Hierarchy) (us : List ℕ) (slice : List Group) (k home ms : ℕ) → t ≡ u → k < length t.homes → slice ≡ t.groups → home ≡ get_or t.homes k home
    → length us ≡ length slice
    → ((g : ℕ) → g < length slice → get_or us g 0 ≡ get_or t.usages g 0 + cond (lies_in slice home g) ms 0)
    → record t { usages = us } ≡ with_uses u k ms
charged_is t u us slice k home ms view lt groups read same each =
    let home_is : home ≡ home_of t k = get_or_read t.homes k home lt read 0 in
    let here : (g : ℕ) → g < length t.groups → get_or us g 0 ≡ get_or t.usages g 0 + cond (lies_in t.groups (home_of t k) g) ms 0 =
    subst (λ (gs : List Group). (g : ℕ) → g < length gs → get_or us g 0 ≡ get_or t.usages g 0 + cond (lies_in gs (home_of t k) g) ms 0) groups
    (λ g g_lt. each g g_lt ∙ ap (λ h. get_or t.usages g 0 + cond (lies_in slice h g) ms 0) home_is) in
    ap (λ (vs : List ℕ). record t { usages = vs })
    (numbers_are t (λ g. usage_of t g + cond (lies_in t.groups (home_of t k) g) ms 0) us (same ∙ ap (λ gs. length gs) groups) here)
    ∙ ap (λ (v : Hierarchy). with_uses v k ms) view

-- the tree once the clock has grown
pub turned_is : (t u : Hierarchy) (us : List ℕ) (slice : List Group) (clock : ℕ) → t ≡ u → slice ≡ t.groups
    → length us ≡ length slice
    → ((g : ℕ) → g < length slice → get_or us g 0 ≡ cond (eqb (clock % period_at slice g) 0) 0 (get_or t.usages g 0))
    → record t { usages = us } ≡ with_turn u clock
turned_is t u us slice clock view groups same each =
    let here : (g : ℕ) → g < length t.groups → get_or us g 0 ≡ cond (eqb (clock % period_at t.groups g) 0) 0 (get_or t.usages g 0) =
    subst (λ (gs : List Group). (g : ℕ) → g < length gs → get_or us g 0 ≡ cond (eqb (clock % period_at gs g) 0) 0 (get_or t.usages g 0)) groups each in
    ap (λ (vs : List ℕ). record t { usages = vs })
    (numbers_are t (λ g. cond (eqb (clock % period_at t.groups g) 0) 0 (usage_of t g)) us (same ∙ ap (λ gs. length gs) groups) here)
    ∙ ap (λ (v : Hierarchy). with_turn v clock) view

-- whether a group has used all that it may, by the numbers
abbrev pub spent : List Group → List ℕ → ℕ → Bool
spent groups used g = is_used_up (quota_at groups g) (get_or used g 0)

-- the group at hand has; `here`, `read` and `quota` as they are read
pub found_here : (groups : List Group) (used : List ℕ) (i x read : ℕ) (at : Option ℕ) (here total : Bool) → i < 3 → x < length groups → length used ≡ length groups
    → at ≡ Some x → read ≡ get_or used x read → here ≡ is_used_up (quota_at groups x) read → here ≡ true
    → total ≡ list_any (spent groups used) (upward groups (3 - i) at)
    → true ≡ total
found_here groups used i x read at here total lt known same is was tested all left =
    let read_is : read ≡ get_or used x 0 = get_or_read used x read (omega (arith, same, known)) was 0 in
    let found : spent groups used x ≡ true = ap (λ n. is_used_up (quota_at groups x) n) (sym read_is) ∙ sym tested ∙ all in
    sym (left ∙ any_step groups (spent groups used) i x at lt is ∙ ap (λ b. b || list_any (spent groups used) (upward groups (3 - (i + 1)) (parent_of groups x))) found)

-- it hasn't, so one that it lies below may
pub passed_here : (groups : List Group) (used : List ℕ) (i x read : ℕ) (at at' : Option ℕ) (here total : Bool) → i < 3 → x < length groups → length used ≡ length groups
    → at ≡ Some x → at' ≡ parent_of groups x → read ≡ get_or used x read → here ≡ is_used_up (quota_at groups x) read → here ≡ false
    → total ≡ list_any (spent groups used) (upward groups (3 - i) at)
    → total ≡ list_any (spent groups used) (upward groups (3 - (i + 1)) at')
passed_here groups used i x read at at' here total lt known same is parent was tested less left =
    let read_is : read ≡ get_or used x 0 = get_or_read used x read (omega (arith, same, known)) was 0 in
    let passed : spent groups used x ≡ false = ap (λ n. is_used_up (quota_at groups x) n) (sym read_is) ∙ sym tested ∙ less in
    left ∙ any_step groups (spent groups used) i x at lt is
    ∙ ap (λ b. b || list_any (spent groups used) (upward groups (3 - (i + 1)) (parent_of groups x))) passed
    ∙ ap (λ a. list_any (spent groups used) (upward groups (3 - (i + 1)) a)) (sym parent)

-- past the top there is nothing more
pub way_ended : (groups : List Group) (test : ℕ → Bool) (i : ℕ) (at at' : Option ℕ) → at ≡ None → at' ≡ at
    → list_any test (upward groups (3 - i) at) ≡ list_any test (upward groups (3 - (i + 1)) at')
way_ended groups test i at at' none same =
    ap (λ a. list_any test (upward groups (3 - i) a)) none ∙ ap (λ gs. list_any test gs) (upward-none groups (3 - i))
    ∙ sym (ap (λ a. list_any test (upward groups (3 - (i + 1)) a)) (same ∙ none) ∙ ap (λ gs. list_any test gs) (upward-none groups (3 - (i + 1))))

-- the group at hand isn't the one that is looked for
pub way_passed : (groups : List Group) (g i x : ℕ) (at at' : Option ℕ) (total : Bool) → i < 3 → at ≡ Some x → at' ≡ parent_of groups x → (x ≡ g → ⊥)
    → total ≡ list_any (λ y. eqb y g) (upward groups (3 - i) at) → total ≡ list_any (λ y. eqb y g) (upward groups (3 - (i + 1)) at')
way_passed groups g i x at at' total lt is parent other left =
    left ∙ any_step groups (λ y. eqb y g) i x at lt is
    ∙ ap (λ b. b || list_any (λ y. eqb y g) (upward groups (3 - (i + 1)) (parent_of groups x))) (ne_eqb x g other)
    ∙ ap (λ a. list_any (λ y. eqb y g) (upward groups (3 - (i + 1)) a)) (sym parent)
