-- What groups have used, as it is forgotten group by group where a period begins.
use Rattle.std.proofs.Common.{◌≡◌, ◌⊎◌, inl, inr, ◌∙◌, ℕ, ◌+◌, ◌%◌, ◌<◌, ◌≤◌, ◌&&◌, ◌||◌, Bool, true, false, if◌then◌else◌, eqb, List, length, get_or, set, refl, sym, ap, arith}
use Rattle.std.proofs.lemmas.List.{get_or-set_same, get_or-set_other}
use Rattle.scx_weights.specs.declared.group.Group.{Group}
use Rattle.scx_weights.specs.Counting.{any_below}
use Rattle.scx_weights.specs.Hierarchy.{quota_at, period_at}
use Rattle.scx_weights.specs.Limits.{is_used_up}
use Rattle.scx_weights.specs.Pending.{is_freed_in, frees_in}
use Rattle.scx_weights.proofs.Counting.{any_below_more, none_below, any_below_same}
use borrow.Author.Count.{below_more}

-- one group more, whose period begins
pub forgotten : (begins : ℕ → Bool) (old used now : List ℕ) (k : ℕ) → k < length used → now ≡ set used k 0 → begins k ≡ true
    → ((g : ℕ) → g < k → get_or used g 0 ≡ (if begins g then 0 else get_or old g 0))
    → (g : ℕ) → g < k + 1 → get_or now g 0 ≡ (if begins g then 0 else get_or old g 0)
forgotten begins old used now k within written begun before =
    below_more (λ g. get_or now g 0 ≡ (if begins g then 0 else get_or old g 0)) k
    (λ g l. ap (λ (us : List ℕ). get_or us g 0) written ∙ get_or-set_other used k g 0 0 (λ e. omega (arith, e, l)) ∙ before g l)
    (ap (λ (us : List ℕ). get_or us k 0) written ∙ rw (get_or-set_same used k 0 0 within, begun) refl)

-- one group more, whose period doesn't begin
pub kept_on : (begins : ℕ → Bool) (old used now : List ℕ) (k : ℕ) → now ≡ used → begins k ≡ false → get_or used k 0 ≡ get_or old k 0
    → ((g : ℕ) → g < k → get_or used g 0 ≡ (if begins g then 0 else get_or old g 0))
    → (g : ℕ) → g < k + 1 → get_or now g 0 ≡ (if begins g then 0 else get_or old g 0)
kept_on begins old used now k same still here before =
    below_more (λ g. get_or now g 0 ≡ (if begins g then 0 else get_or old g 0)) k
    (λ g l. ap (λ (us : List ℕ). get_or us g 0) same ∙ before g l)
    (ap (λ (us : List ℕ). get_or us k 0) same ∙ here ∙ rw still refl)

-- the groups behind it have what they had
pub untouched : (old used now : List ℕ) (k : ℕ) → now ≡ set used k 0 → ((g : ℕ) → k ≤ g → get_or used g 0 ≡ get_or old g 0)
    → (g : ℕ) → k + 1 ≤ g → get_or now g 0 ≡ get_or old g 0
untouched old used now k written after g l =
    ap (λ (us : List ℕ). get_or us g 0) written ∙ get_or-set_other used k g 0 0 (λ e. omega (arith, e, l)) ∙ after g (omega (arith, l))

-- a group that begins a period is freed if it had used up its quota
pub freed_here : (groups : List Group) (old : List ℕ) (clock k read : ℕ) (freed now over : Bool)
    → freed ≡ any_below k (is_freed_in groups old clock)
    → over ≡ is_used_up (quota_at groups k) read → read ≡ get_or old k 0 → eqb (clock % period_at groups k) 0 ≡ true
    → ((now ≡ true) × (over ≡ true)) ⊎ ((now ≡ freed) × (over ≡ false))
    → now ≡ any_below (k + 1) (is_freed_in groups old clock)
freed_here groups old clock k read freed now over before is read_is begun known =
    let used : over ≡ is_used_up (quota_at groups k) (get_or old k 0) = is ∙ ap (λ n. is_used_up (quota_at groups k) n) read_is in
    let here : over ≡ is_freed_in groups old clock k = used ∙ sym (and_yes (is_used_up (quota_at groups k) (get_or old k 0)) (eqb (clock % period_at groups k) 0) begun) in
    joined freed now over known
    ∙ ap (λ b. b || over) before
    ∙ ap (λ b. any_below k (is_freed_in groups old clock) || b) here
    ∙ sym (any_below_more k (is_freed_in groups old clock))
  where
    and_yes : (a b : Bool) → b ≡ true → (a && b) ≡ a
    and_yes true b e = e
    and_yes false b e = refl

    joined : (freed now over : Bool) → ((now ≡ true) × (over ≡ true)) ⊎ ((now ≡ freed) × (over ≡ false)) → now ≡ (freed || over)
    joined true now over (inl (e, f)) = e
    joined true now over (inr (e, f)) = e
    joined false now over (inl (e, f)) = e ∙ sym f
    joined false now over (inr (e, f)) = e ∙ sym f

-- a group that begins no period isn't freed
pub not_freed : (groups : List Group) (usages : List ℕ) (clock g : ℕ) → eqb (clock % period_at groups g) 0 ≡ false → is_freed_in groups usages clock g ≡ false
not_freed groups usages clock g still = and_no (is_used_up (quota_at groups g) (get_or usages g 0)) (eqb (clock % period_at groups g) 0) still
  where
    and_no : (a b : Bool) → b ≡ false → (a && b) ≡ false
    and_no true b e = e
    and_no false b e = refl

-- and leaves the answer as it was
pub freed_as_before : (groups : List Group) (old : List ℕ) (clock k : ℕ) (freed now : Bool)
    → freed ≡ any_below k (is_freed_in groups old clock) → eqb (clock % period_at groups k) 0 ≡ false → now ≡ freed
    → now ≡ any_below (k + 1) (is_freed_in groups old clock)
freed_as_before groups old clock k freed now before still same =
    let here : (any_below k (is_freed_in groups old clock) || is_freed_in groups old clock k) ≡ any_below k (is_freed_in groups old clock) =
    or_no (any_below k (is_freed_in groups old clock)) (is_freed_in groups old clock k) (not_freed groups old clock k still) in
    same ∙ before ∙ sym (any_below_more k (is_freed_in groups old clock) ∙ here)
  where
    or_no : (a b : Bool) → b ≡ false → (a || b) ≡ a
    or_no true b e = refl
    or_no false b e = e

-- at a clock at which no period begins nobody is freed
pub nobody_freed : (groups : List Group) (usages : List ℕ) (clock : ℕ) → ((g : ℕ) → g < length groups → eqb (clock % period_at groups g) 0 ≡ false)
    → false ≡ frees_in groups usages clock
nobody_freed groups usages clock none = sym (none_below (length groups) (is_freed_in groups usages clock) (λ g lt. not_freed groups usages clock g (none g lt)))

-- the same usages free the same
pub frees_same : (groups : List Group) (usages usages' : List ℕ) (clock : ℕ) → ((g : ℕ) → g < length groups → get_or usages g 0 ≡ get_or usages' g 0)
    → frees_in groups usages clock ≡ frees_in groups usages' clock
frees_same groups usages usages' clock same =
    any_below_same (length groups) (is_freed_in groups usages clock) (is_freed_in groups usages' clock)
    (λ g lt. ap (λ n. is_used_up (quota_at groups g) n && eqb (clock % period_at groups g) 0) (same g lt))
