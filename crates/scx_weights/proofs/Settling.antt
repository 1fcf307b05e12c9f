-- What is pending, and how it is added up.
use Rattle.std.proofs.Common.{ℕ, zero, suc, ◌+◌, ◌^◌, ◌<◌, ◌≤◌, ◌≡◌, ◌||◌, Bool, true, false, cond, eqb, List, [], ◌∷◌, length, get_or, set, replicate, None, refl, sym, ap, ◌∙◌, arith, ⊎_elim}
use Rattle.std.specs.List.{list_any}
use Rattle.std.proofs.lemmas.Bool.{cases_eq, or_left, or_right, eq-eqb}
use Rattle.std.proofs.lemmas.List.{get_or-set_same, get_or-set_other, ext_get_or, get_or-replicate, length-replicate, length-set, get_or_read}
use Rattle.std.proofs.lemmas.List.FromFn.{get_or-map-range_with_len, length-map-range_with_len}
use Rattle.scx_weights.specs.declared.group.Group.{Group}
use Rattle.scx_weights.specs.Counting.{sum_below}
use Rattle.scx_weights.specs.Hierarchy.{Hierarchy, parent_of, group_at, quota_at, upward, path, lies_in, with_weight_of, with_weight}
use Rattle.scx_weights.specs.Limits.{is_used_up}
use Rattle.scx_weights.specs.Pending.{pending_for, usage_in, usages_in, AreUsages}
use Rattle.scx_weights.specs.RunningSums.{IsForest}
use Rattle.scx_weights.proofs.Counting.{sum_below_same, sum_below_but, le-sum_below}
use Rattle.scx_weights.proofs.Paths.{among, among_le}
use Rattle.scx_weights.proofs.Reweighed.{length-reweighed, lies_same, parent_reweighed}

-- what is pending of all groups, for one
abbrev pub pending_of : List Group → List ℕ → ℕ → ℕ
pending_of groups pending g = sum_below (length groups) (λ h. pending_for groups pending g h)

-- what stands in the list of usages
pub usage_at : (groups : List Group) (used pending : List ℕ) (g : ℕ) → g < length groups → get_or (usages_in groups used pending) g 0 ≡ get_or used g 0 + pending_of groups pending g
unfolding usages_in
usage_at groups used pending g lt = get_or-map-range_with_len (usage_in groups used pending) 0 (length groups) g g 0 lt (omega arith)

-- and how many stand there
pub length-usages_in : (groups : List Group) (used pending : List ℕ) → length (usages_in groups used pending) ≡ length groups
unfolding usages_in
length-usages_in groups used pending = length-map-range_with_len (usage_in groups used pending) 0 (length groups)

-- where nothing is pending the sum is 0
none_pending : (groups : List Group) (pending : List ℕ) (g n : ℕ) → ((h : ℕ) → h < n → get_or pending h 0 ≡ 0) → sum_below n (λ h. pending_for groups pending g h) ≡ 0
none_pending groups pending g zero none = refl
none_pending groups pending g (suc n) none =
    let here : pending_for groups pending g n ≡ 0 = nothing (lies_in groups n g) (get_or pending n 0) (none n (omega arith)) in
    let before : sum_below n (λ h. pending_for groups pending g h) ≡ 0 = none_pending groups pending g n (λ h lt. none h (omega (arith, lt))) in
    omega (arith, here, before)
  where
    nothing : (b : Bool) (m : ℕ) → m ≡ 0 → cond {A = ℕ} b m 0 ≡ 0
    nothing true m e = e
    nothing false m e = refl

-- and what was added up is all
pub usage_settled : (groups : List Group) (used pending : List ℕ) (g : ℕ) → g < length groups → ((h : ℕ) → h < length groups → get_or pending h 0 ≡ 0)
    → get_or (usages_in groups used pending) g 0 ≡ get_or used g 0
usage_settled groups used pending g lt none =
    omega (arith, usage_at groups used pending g lt, none_pending groups pending g (length groups) none)

-- the sum where one number is written
pending_set : (groups : List Group) (pending : List ℕ) (home v g : ℕ) → home < length groups → length pending ≡ length groups
    → pending_of groups (set pending home v) g + cond (lies_in groups home g) (get_or pending home 0) 0 ≡ pending_of groups pending g + cond (lies_in groups home g) v 0
pending_set groups pending home v g lt same =
    let but : pending_of groups (set pending home v) g + pending_for groups pending g home ≡ pending_of groups pending g + pending_for groups (set pending home v) g home =
    sum_below_but (length groups) home (λ h. pending_for groups (set pending home v) g h) (λ h. pending_for groups pending g h) lt
    (λ k less other. ap (λ m. cond (lies_in groups k g) m 0) (get_or-set_other pending home k v 0 other)) in
    let here : pending_for groups (set pending home v) g home ≡ cond (lies_in groups home g) v 0 =
    ap (λ m. cond (lies_in groups home g) m 0) (get_or-set_same pending home v 0 (omega (arith, lt, same))) in
    but ∙ ap (λ m. pending_of groups pending g + m) here

-- some milliseconds more are pending
pub pending_charged : (groups : List Group) (used pending : List ℕ) (home g ms : ℕ) → home < length groups → g < length groups → length pending ≡ length groups
    → get_or (usages_in groups used (set pending home (get_or pending home 0 + ms))) g 0 ≡ get_or (usages_in groups used pending) g 0 + cond (lies_in groups home g) ms 0
pending_charged groups used pending home g ms lt g_lt same =
    let more : cond {A = ℕ} (lies_in groups home g) (get_or pending home 0 + ms) 0 ≡ cond (lies_in groups home g) (get_or pending home 0) 0 + cond (lies_in groups home g) ms 0 =
    split (lies_in groups home g) (get_or pending home 0) in
    omega (
      arith,
      usage_at groups used (set pending home (get_or pending home 0 + ms)) g g_lt,
      usage_at groups used pending g g_lt,
      pending_set groups pending home (get_or pending home 0 + ms) g lt same,
      more,
    )
  where
    split : (b : Bool) (n : ℕ) → cond {A = ℕ} b (n + ms) 0 ≡ cond b n 0 + cond b ms 0
    split true n = omega arith
    split false n = omega arith

-- one more is added up at once
pub added_charged : (groups : List Group) (used used' pending : List ℕ) (g more : ℕ) → g < length groups → get_or used' g 0 ≡ get_or used g 0 + more
    → get_or (usages_in groups used' pending) g 0 ≡ get_or (usages_in groups used pending) g 0 + more
added_charged groups used used' pending g more lt added =
    omega (arith, usage_at groups used' pending g lt, usage_at groups used pending g lt, added)

-- what is pending of a group is part of what each has used that it lies in
pub pending_within : (groups : List Group) (used pending : List ℕ) (home g : ℕ) → home < length groups → g < length groups → lies_in groups home g ≡ true
    → get_or used g 0 + get_or pending home 0 ≤ get_or (usages_in groups used pending) g 0
pending_within groups used pending home g lt g_lt lies =
    let part : pending_for groups pending g home ≤ pending_of groups pending g = le-sum_below (length groups) home (λ h. pending_for groups pending g h) lt in
    let all : pending_for groups pending g home ≡ get_or pending home 0 = ap (λ b. cond {A = ℕ} b (get_or pending home 0) 0) lies in
    omega (arith, usage_at groups used pending g g_lt, part, all)

-- what was pending of one group is added up, and each has used as much as before
pub settled_step : (groups : List Group) (used used' pending : List ℕ) (home g : ℕ) → home < length groups → g < length groups → length pending ≡ length groups
    → get_or used' g 0 ≡ get_or used g 0 + cond (lies_in groups home g) (get_or pending home 0) 0
    → get_or (usages_in groups used' (set pending home 0)) g 0 ≡ get_or (usages_in groups used pending) g 0
settled_step groups used used' pending home g lt g_lt same added =
    let none : cond {A = ℕ} (lies_in groups home g) 0 0 ≡ 0 = nothing (lies_in groups home g) in
    omega (
      arith,
      usage_at groups used' (set pending home 0) g g_lt,
      usage_at groups used pending g g_lt,
      pending_set groups pending home 0 g lt same,
      none,
      added,
    )
  where
    nothing : (b : Bool) → cond {A = ℕ} b 0 0 ≡ 0
    nothing true = refl
    nothing false = refl

-- the sum so far is within the whole
pub part_below : (n m : ℕ) (f : ℕ → ℕ) → m < n → sum_below m f + f m ≤ sum_below n f
part_below zero m f lt = absurd (omega (arith, lt))
part_below (suc n) m f lt =
    ⊎_elim
    (λ (e : m ≡ n).
    let sum : sum_below m f ≡ sum_below n f = ap (λ k. sum_below k f) e in
    let here : f m ≡ f n = ap f e in
    omega (arith, sum, here))
    (λ (e : m ≡ n → ⊥). let before : sum_below m f + f m ≤ sum_below n f = part_below n m f (omega (arith, lt, e)) in omega (arith, before))
    (cases_eq m n)

-- the sum with one more
pub sum_more : (n : ℕ) (f : ℕ → ℕ) → sum_below (n + 1) f ≡ sum_below n f + f n
sum_more n f = let next : n + 1 ≡ suc n = omega arith in rw next refl

-- milliseconds of a task are no more than what it may be
pub charged_are : (groups : List Group) (used used' pending pending' : List ℕ) (limited : Bool) (home ms : ℕ) → AreUsages groups used pending limited
    → length used' ≡ length groups → length pending' ≡ length groups
    → (limited ≡ true → (g : ℕ) → g < length groups → get_or pending' g 0 ≡ 0)
    → ((g : ℕ) → lies_in groups home g ≡ true → get_or (usages_in groups used pending) g 0 + ms ≤ 2 ^ 63)
    → ((g : ℕ) → g < length groups → get_or (usages_in groups used' pending') g 0 ≡ get_or (usages_in groups used pending) g 0 + cond (lies_in groups home g) ms 0)
    → AreUsages groups used' pending' limited
charged_are groups used used' pending pending' limited home ms had same same' settled room counted = record {
  used_length = same;
  pending_length = same';
  settled = settled;
  room = λ g lt. within (lies_in groups home g) (get_or (usages_in groups used pending) g 0) (get_or (usages_in groups used' pending') g 0) (had.room g lt) (room g) (counted g lt);
}
  where
    within : (b : Bool) (n n' : ℕ) → n ≤ 2 ^ 63 → (b ≡ true → n + ms ≤ 2 ^ 63) → n' ≡ n + cond b ms 0 → n' ≤ 2 ^ 63
    within true n n' le lt is = omega (arith, is, lt refl)
    within false n n' le lt is = omega (arith, is, le)

-- usages as they are after a turn
pub turned_are : (groups : List Group) (used used' pending pending' : List ℕ) (limited : Bool) (begins : ℕ → Bool) → AreUsages groups used pending limited
    → length used' ≡ length groups → length pending' ≡ length groups → ((g : ℕ) → g < length groups → get_or pending' g 0 ≡ 0)
    → ((g : ℕ) → g < length groups → get_or (usages_in groups used' pending') g 0 ≡ cond (begins g) 0 (get_or (usages_in groups used pending) g 0))
    → AreUsages groups used' pending' limited
turned_are groups used used' pending pending' limited begins had same same' none counted = record {
  used_length = same;
  pending_length = same';
  settled = λ e. none;
  room = λ g lt. within (begins g) (get_or (usages_in groups used pending) g 0) (get_or (usages_in groups used' pending') g 0) (had.room g lt) (counted g lt);
}
  where
    within : (b : Bool) (n n' : ℕ) → n ≤ 2 ^ 63 → n' ≡ cond b 0 n → n' ≤ 2 ^ 63
    within true n n' le is = omega (arith, is)
    within false n n' le is = omega (arith, is, le)

-- with the same parents each group has used the same
pub usages_same : (groups groups' : List Group) (used pending : List ℕ) → length groups' ≡ length groups → ((h g : ℕ) → lies_in groups' h g ≡ lies_in groups h g)
    → usages_in groups' used pending ≡ usages_in groups used pending
usages_same groups groups' used pending same lies =
    ext_get_or 0 (usages_in groups' used pending) (usages_in groups used pending)
    (length-usages_in groups' used pending ∙ same ∙ sym (length-usages_in groups used pending))
    (λ g lt.
    let within' : g < length groups' = omega (arith, length-usages_in groups' used pending, lt) in
    let within : g < length groups = omega (arith, same, within') in
    let sum : pending_of groups' pending g ≡ pending_of groups pending g =
    ap (λ n. sum_below n (λ h. pending_for groups' pending g h)) same
    ∙ sum_below_same (length groups) (λ h. pending_for groups' pending g h) (λ h. pending_for groups pending g h)
    (λ h less. ap (λ b. cond {A = ℕ} b (get_or pending h 0) 0) (lies h g)) in
    omega (arith, usage_at groups' used pending g within', usage_at groups used pending g within, sum))

-- of new groups nothing is used
pub nothing_used : (groups : List Group) → usages_in groups (replicate (length groups) 0) (replicate (length groups) 0) ≡ replicate (length groups) 0
nothing_used groups =
    ext_get_or 0 (usages_in groups (replicate (length groups) 0) (replicate (length groups) 0)) (replicate (length groups) 0)
    (length-usages_in groups (replicate (length groups) 0) (replicate (length groups) 0) ∙ sym (length-replicate (length groups) 0))
    (λ g lt.
    let within : g < length groups = omega (arith, length-usages_in groups (replicate (length groups) 0) (replicate (length groups) 0), lt) in
    usage_settled groups (replicate (length groups) 0) (replicate (length groups) 0) g within (λ h less. get_or-replicate (length groups) h 0 0 less))

-- and they are as they have to be
pub new_usages : (groups : List Group) (limited : Bool) → AreUsages groups (replicate (length groups) 0) (replicate (length groups) 0) limited
new_usages groups limited =
    let zeros : List ℕ = replicate (length groups) 0 in
    record {
      used_length = length-replicate (length groups) 0;
      pending_length = length-replicate (length groups) 0;
      settled = λ e g lt. get_or-replicate (length groups) g 0 0 lt;
      room = λ g lt.
          let none : get_or (usages_in groups zeros zeros) g 0 ≡ get_or zeros g 0 = usage_settled groups zeros zeros g lt (λ h less. get_or-replicate (length groups) h 0 0 less) in
          let start : get_or zeros g 0 ≡ 0 = get_or-replicate {A = ℕ} (length groups) g 0 0 lt in
          omega (arith, none, start);
    }

-- where 0 is written at the next place, there is 0 at all places so far
pub written_below : (pending next : List ℕ) (n : ℕ) → n < length pending → next ≡ set pending n 0 → ((h : ℕ) → h < n → get_or pending h 0 ≡ 0) → (h : ℕ) → h < n + 1 → get_or next h 0 ≡ 0
written_below pending next n within written before h lt =
    ap (λ ps. get_or ps h 0) written
    ∙ ⊎_elim
    (λ (e : h ≡ n). ap (λ k. get_or (set pending n 0) k 0) e ∙ get_or-set_same pending n 0 0 within)
    (λ (e : h ≡ n → ⊥). get_or-set_other pending n h 0 0 e ∙ before h (omega (arith, lt, e)))
    (cases_eq h n)

-- of what was added up, what a turn leaves
pub turned_usage : (groups : List Group) (used pending used1 pending1 used2 pending2 : List ℕ) (begins : Bool) (g : ℕ) → g < length groups
    → ((h : ℕ) → h < length groups → get_or pending1 h 0 ≡ 0) → pending2 ≡ pending1
    → get_or (usages_in groups used1 pending1) g 0 ≡ get_or (usages_in groups used pending) g 0
    → get_or used2 g 0 ≡ cond begins 0 (get_or used1 g 0)
    → get_or (usages_in groups used2 pending2) g 0 ≡ cond begins 0 (get_or (usages_in groups used pending) g 0)
turned_usage groups used pending used1 pending1 used2 pending2 begins g lt none same settled left =
    let now : get_or (usages_in groups used2 pending2) g 0 ≡ get_or used2 g 0 = usage_settled groups used2 pending2 g lt (λ h less. ap (λ ps. get_or ps h 0) same ∙ none h less) in
    let before : get_or used1 g 0 ≡ get_or (usages_in groups used pending) g 0 = sym (usage_settled groups used1 pending1 g lt none) ∙ settled in
    now ∙ left ∙ ap (λ n. cond begins 0 n) before

-- a group lies in itself
pub lies_itself : (groups : List Group) (g : ℕ) → lies_in groups g g ≡ true
lies_itself groups g = or_left (eqb g g) (among g (upward groups 2 (parent_of groups g))) (eq-eqb g g refl)

-- what was added up is within what was used
pub used_within : (groups : List Group) (used pending : List ℕ) (g : ℕ) → g < length groups → get_or used g 0 ≤ get_or (usages_in groups used pending) g 0
used_within groups used pending g lt = omega (arith, usage_at groups used pending g lt)

-- what a group lies in is in the list
pub lies_within : (groups : List Group) (home g : ℕ) → IsForest groups → home < length groups → lies_in groups home g ≡ true → g < length groups
lies_within groups home g forest lt lies = let le : g ≤ home = among_le groups forest 3 home g lies in omega (arith, le, lt)

-- tests that answer the same for each of a list
any_same : (f g : ℕ → Bool) (xs : List ℕ) → ((x : ℕ) → among x xs ≡ true → f x ≡ g x) → list_any f xs ≡ list_any g xs
any_same f g [] same = refl
any_same f g (x ∷ xs) same =
    let here : f x ≡ g x = same x (or_left (eqb x x) (among x xs) (eq-eqb x x refl)) in
    let rest : list_any f xs ≡ list_any g xs = any_same f g xs (λ y in'. same y (or_right (eqb x y) (among y xs) in')) in
    ap (λ b. b || list_any f xs) here ∙ ap (λ b. g x || b) rest

-- where all is added up, who is used up is told by what was added up
pub settled_way : (groups : List Group) (used pending : List ℕ) (home : ℕ) → IsForest groups → home < length groups → ((h : ℕ) → h < length groups → get_or pending h 0 ≡ 0)
    → list_any (λ g. is_used_up (quota_at groups g) (get_or used g 0)) (path groups home)
    ≡ list_any (λ g. is_used_up (quota_at groups g) (get_or (usages_in groups used pending) g 0)) (path groups home)
settled_way groups used pending home forest lt none =
    any_same (λ g. is_used_up (quota_at groups g) (get_or used g 0)) (λ g. is_used_up (quota_at groups g) (get_or (usages_in groups used pending) g 0)) (path groups home)
    (λ g lies. ap (λ n. is_used_up (quota_at groups g) n) (sym (usage_settled groups used pending g (lies_within groups home g forest lt lies) none)))

abbrev no_group : Group
no_group = record { parent = None; weight = 0; quota_ms = None; period_ms = 0 }

-- a weight that is written changes no usage
pub usages_reweighed : (groups : List Group) (g w : ℕ) (used pending : List ℕ) (had : Group) → g < length groups → had ≡ get_or groups g had
    → usages_in (set groups g (record { parent = had.parent; weight = w; quota_ms = had.quota_ms; period_ms = had.period_ms })) used pending ≡ usages_in groups used pending
usages_reweighed groups g w used pending had lt read =
    let had_is : had ≡ group_at groups g = get_or_read groups g had lt read no_group in
    ap (λ (x : Group). usages_in (set groups g (record { parent = x.parent; weight = w; quota_ms = x.quota_ms; period_ms = x.period_ms })) used pending) had_is
    ∙ usages_same groups (with_weight_of groups g w) used pending (length-reweighed groups g w) (lies_same groups (with_weight_of groups g w) (λ k. parent_reweighed groups g w k lt))

-- and leaves them as they have to be
pub reweighed_are : (groups : List Group) (g w : ℕ) (used pending : List ℕ) (limited : Bool) (had : Group) → g < length groups → had ≡ get_or groups g had → AreUsages groups used pending limited
    → AreUsages (set groups g (record { parent = had.parent; weight = w; quota_ms = had.quota_ms; period_ms = had.period_ms })) used pending limited
reweighed_are groups g w used pending limited had lt read is =
    let now : List Group = set groups g (record { parent = had.parent; weight = w; quota_ms = had.quota_ms; period_ms = had.period_ms }) in
    let same : length now ≡ length groups = length-set groups g (record { parent = had.parent; weight = w; quota_ms = had.quota_ms; period_ms = had.period_ms }) in
    record {
      used_length = is.used_length ∙ sym same;
      pending_length = is.pending_length ∙ sym same;
      settled = λ e k k_lt. is.settled e k (omega (arith, same, k_lt));
      room = λ k k_lt.
          let n : get_or (usages_in now used pending) k 0 ≡ get_or (usages_in groups used pending) k 0 = ap (λ us. get_or us k 0) (usages_reweighed groups g w used pending had lt read) in
          omega (arith, n, is.room k (omega (arith, same, k_lt)));
    }

-- the tree with that weight
pub tree_reweighed : (t u : Hierarchy) (used pending : List ℕ) (g w : ℕ) (had : Group) → t ≡ u → t.usages ≡ usages_in t.groups used pending → g < length t.groups → had ≡ get_or t.groups g had
    → record {
      groups = set t.groups g (record { parent = had.parent; weight = w; quota_ms = had.quota_ms; period_ms = had.period_ms });
      homes = t.homes;
      own_weights = t.own_weights;
      masks = t.masks;
      active = t.active;
      usages = usages_in (set t.groups g (record { parent = had.parent; weight = w; quota_ms = had.quota_ms; period_ms = had.period_ms })) used pending;
    } ≡ with_weight u g w
tree_reweighed t u used pending g w had view usages lt read =
    let had_is : had ≡ group_at t.groups g = get_or_read t.groups g had lt read no_group in
    ap (λ (us : List ℕ). record {
      groups = set t.groups g (record { parent = had.parent; weight = w; quota_ms = had.quota_ms; period_ms = had.period_ms });
      homes = t.homes;
      own_weights = t.own_weights;
      masks = t.masks;
      active = t.active;
      usages = us;
    }) (usages_reweighed t.groups g w used pending had lt read ∙ sym usages)
    ∙ ap (λ (x : Group). record {
      groups = set t.groups g (record { parent = x.parent; weight = w; quota_ms = x.quota_ms; period_ms = x.period_ms });
      homes = t.homes;
      own_weights = t.own_weights;
      masks = t.masks;
      active = t.active;
      usages = t.usages;
    }) had_is
    ∙ ap (λ (v : Hierarchy). with_weight v g w) view
