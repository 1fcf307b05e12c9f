-- A calendar: who is noted stays so as others are, and who isn't met on a day doesn't wake then.
use Rattle.std.proofs.Common.{◌≡◌, ℕ, ◌+◌, ◌*◌, ◌%◌, ◌<◌, ◌≤◌, min, ◌⊎◌, inl, inr, Bool, true, false, nat_lt, if◌then◌else◌, List, length, set, get_or, replicate, refl, sym, ap, ◌∙◌, subst, arith}
use Rattle.std.proofs.lemmas.Bool.{cases_eq, cases_lt, lt-ltb, le-ltb}
use Rattle.std.proofs.lemmas.List.{length-set, length-replicate, get_or-set_same, get_or-set_other, set_past}
use Rattle.scx_load_driver.specs.declared.calendar.Calendar.{Calendar}
use Rattle.scx_load_driver.specs.Sets.{is_there}
use Rattle.scx_load_driver.specs.Calendar.{spot, soonest_of, IsNoted, IsWhole, AreNotedBelow, AreNoted, with_task}

-- ---- a task is noted

-- it stands at its day
pub noted_here : (c : Calendar) (t ms : ℕ) → t < 1024 → IsWhole c → IsNoted (with_task c t ms) t ms
noted_here c t ms few whole =
    let v : ℕ = min (soonest_of c ms) ms in
    let there : get_or (set c.there (spot ms t) true) (spot ms t) false ≡ true = get_or-set_same c.there (spot ms t) true false (omega (arith, few, whole.spots)) in
    let day : get_or (set c.soonest (ms % 256) v) (ms % 256) 0 ≡ v = get_or-set_same c.soonest (ms % 256) v 0 (omega (arith, whole.days)) in
    (there, omega (arith, day))

-- and the others stay noted
pub noted_still : (c : Calendar) (t ms u m : ℕ) → t < 1024 → IsWhole c → IsNoted c u m → IsNoted (with_task c t ms) u m
noted_still c t ms u m few whole h = (there (cases_eq (spot m u) (spot ms t)), soon (cases_eq (m % 256) (ms % 256)))
  where
    v : ℕ
    v = min (soonest_of c ms) ms

    there : (spot m u ≡ spot ms t) ⊎ (spot m u ≡ spot ms t → ⊥) → get_or (set c.there (spot ms t) true) (spot m u) false ≡ true
    there (inl e) = rw (e, get_or-set_same c.there (spot ms t) true false (omega (arith, few, whole.spots))) refl
    there (inr d) = rw (get_or-set_other c.there (spot ms t) (spot m u) true false d) h.0

    soon : (m % 256 ≡ ms % 256) ⊎ (m % 256 ≡ ms % 256 → ⊥) → get_or (set c.soonest (ms % 256) v) (m % 256) 0 ≤ m
    soon (inl e) =
        let day : get_or (set c.soonest (ms % 256) v) (m % 256) 0 ≡ v = rw (e, get_or-set_same c.soonest (ms % 256) v 0 (omega (arith, whole.days))) refl in
        let old : soonest_of c ms ≡ soonest_of c m = ap (λ k. get_or c.soonest k 0) (sym e) in
        omega (arith, day, old, h.1)
    soon (inr d) = rw (get_or-set_other c.soonest (ms % 256) (m % 256) v 0 d) h.1

-- there is still each day
pub whole_with : (c : Calendar) (t ms : ℕ) → IsWhole c → IsWhole (with_task c t ms)
whole_with c t ms h = record { days = length-set c.soonest (ms % 256) (min (soonest_of c ms) ms) ∙ h.days; spots = length-set c.there (spot ms t) true ∙ h.spots }

-- and at first
pub whole_empty : (c : Calendar) (v : ℕ) → c.soonest ≡ replicate 256 v → c.there ≡ replicate 262144 false → IsWhole c
whole_empty c v days spots = record { days = ap length days ∙ length-replicate 256 v; spots = ap length spots ∙ length-replicate 262144 false }

-- and once somebody leaves
pub whole_less : (c : Calendar) (i : ℕ) → IsWhole c → IsWhole (record { soonest = c.soonest; there = set c.there i false })
whole_less c i h = record { days = h.days; spots = length-set c.there i false ∙ h.spots }

-- one more task
pub noted_more : (due : List ℕ) (k from : ℕ) (c : Calendar) → k < 1024 → IsWhole c → AreNotedBelow k due from c → AreNotedBelow (k + 1) due from (with_task c k (get_or due k 0))
noted_more due k from c few whole h = λ t l y. go t l y (cases_eq t k)
  where
    go : (t : ℕ) → t < k + 1 → from ≤ get_or due t 0 → (t ≡ k) ⊎ (t ≡ k → ⊥) → IsNoted (with_task c k (get_or due k 0)) t (get_or due t 0)
    go t l y (inl e) = subst (λ i. IsNoted (with_task c k (get_or due k 0)) i (get_or due i 0)) (sym e) (noted_here c k (get_or due k 0) few whole)
    go t l y (inr d) = noted_still c k (get_or due k 0) t (get_or due t 0) few whole (h t (omega (arith, l, d)) y)

in_due : (P : ℕ → Type 0) (due : List ℕ) (t u x : ℕ) → (u ≡ t → P x) → P (get_or due u 0) → P (get_or (set due t x) u 0)
in_due P due t u x new old = go (cases_eq u t) (cases_lt t (length due))
  where
    go : (u ≡ t) ⊎ (u ≡ t → ⊥) → (t < length due) ⊎ (length due ≤ t) → P (get_or (set due t x) u 0)
    go (inl e) (inl within) = rw (e, get_or-set_same due t x 0 within) (new e)
    go (inl e) (inr past) = rw (set_past due t x past) old
    go (inr d) l = rw (get_or-set_other due t u x 0 d) old

-- a task that wakes at another time
pub noted_set : (due : List ℕ) (t ms from : ℕ) (c : Calendar) → t < 1024 → IsWhole c → AreNoted due from c → AreNoted (set due t ms) from (with_task c t ms)
noted_set due t ms from c few whole h = λ u l y.
    in_due (λ x. from ≤ x → IsNoted (with_task c t ms) u x) due t u ms
    (λ same z. subst (λ i. IsNoted (with_task c t ms) i ms) (sym same) (noted_here c t ms few whole))
    (λ z. noted_still c t ms u (get_or due u 0) few whole (h u (omega (arith, l, length-set due t ms)) z)) y

-- a millisecond later
pub noted_later : (due : List ℕ) (now : ℕ) (c : Calendar) → AreNoted due now c → AreNoted due (now + 1) c
noted_later due now c h = λ t l y. h t l (omega (arith, y))

-- ---- who wakes

-- nobody does before the millisecond that is kept
pub none_so_soon : (due : List ℕ) (now : ℕ) (c : Calendar) (t : ℕ) → AreNoted due now c → now < soonest_of c now → t < length due → (get_or due t 0 ≡ now → ⊥)
none_so_soon due now c t h l within e =
    let x : soonest_of c now ≤ now = subst (λ m. soonest_of c m ≤ m) e (h t within (omega (arith, e))).1 in
    absurd (omega (arith, x, l))

-- nor does one who isn't there that day
pub none_elsewhere : (due : List ℕ) (now : ℕ) (c : Calendar) (t : ℕ) → AreNoted due now c → is_there c.there (spot now t) ≡ false → t < length due → (get_or due t 0 ≡ now → ⊥)
none_elsewhere due now c t h off within e =
    let on : is_there c.there (spot now t) ≡ true = subst (λ m. is_there c.there (spot m t) ≡ true) e (h t within (omega (arith, e))).0 in
    absurd (cc)

-- ---- a day is looked at anew

-- whoever wakes later stays where they are
abbrev pub AreLeft : List ℕ → ℕ → List Bool → Type 0
AreLeft due now there = (t : ℕ) → t < length due → now + 1 ≤ get_or due t 0 → is_there there (spot (get_or due t 0) t) ≡ true

-- of those so far who wake later on that day nobody wakes before that millisecond
abbrev pub AreLater : ℕ → List ℕ → ℕ → ℕ → Type 0
AreLater k due now soonest = (t : ℕ) → t < k → now + 1 ≤ get_or due t 0 → get_or due t 0 % 256 ≡ now % 256 → soonest ≤ get_or due t 0

-- one that wakes no later may leave the day
pub left_without : (due : List ℕ) (now k : ℕ) (there : List Bool) → k < length due → length due ≤ 1024 → get_or due k 0 ≤ now → AreLeft due now there → AreLeft due now (set there (spot now k) false)
left_without due now k there within few late h = λ t l y. get_or-set_other there (spot now k) (spot (get_or due t 0) t) false false (other t l y (cases_eq t k)) ∙ h t l y
  where
    other : (t : ℕ) → t < length due → now + 1 ≤ get_or due t 0 → (t ≡ k) ⊎ (t ≡ k → ⊥) → (spot (get_or due t 0) t ≡ spot now k → ⊥)
    other t l y (inl e) s = let same : get_or due t 0 ≡ get_or due k 0 = ap (λ i. get_or due i 0) e in absurd (omega (arith, y, late, same))
    other t l y (inr d) s = absurd (omega (arith, s, d, l, within, few))

-- one more was looked at
pub later_more : (k : ℕ) (due : List ℕ) (now soonest less : ℕ) → AreLater k due now soonest → less ≤ soonest → (now + 1 ≤ get_or due k 0 → less ≤ get_or due k 0) → AreLater (k + 1) due now less
later_more k due now soonest less h lower here = λ t l y e. go t l y e (cases_eq t k)
  where
    go : (t : ℕ) → t < k + 1 → now + 1 ≤ get_or due t 0 → get_or due t 0 % 256 ≡ now % 256 → (t ≡ k) ⊎ (t ≡ k → ⊥) → less ≤ get_or due t 0
    go t l y e (inl is) = subst (λ i. less ≤ get_or due i 0) (sym is) (here (subst (λ i. now + 1 ≤ get_or due i 0) is y))
    go t l y e (inr d) = omega (arith, lower, h t (omega (arith, l, d)) y e)

-- one was looked at: it leaves the day unless it wakes later
pub left_after : (due : List ℕ) (now k : ℕ) (there after : List Bool) → k < length due → length due ≤ 1024 → after ≡ (if nat_lt now (get_or due k 0) then there else set there (spot now k) false) → AreLeft due now there → AreLeft due now after
left_after due now k there after within few is h = go (cases_lt now (get_or due k 0))
  where
    go : (now < get_or due k 0) ⊎ (get_or due k 0 ≤ now) → AreLeft due now after
    go (inl l) = let same : after ≡ there = is ∙ ap (λ b. if b then there else set there (spot now k) false) (lt-ltb now (get_or due k 0) l) in subst (AreLeft due now) (sym same) h
    go (inr l) =
        let same : after ≡ set there (spot now k) false = is ∙ ap (λ b. if b then there else set there (spot now k) false) (le-ltb now (get_or due k 0) l) in
        subst (AreLeft due now) (sym same) (left_without due now k there within few l h)

-- and counts if it does
pub later_after : (k : ℕ) (due : List ℕ) (now soonest less : ℕ) → less ≡ (if nat_lt now (get_or due k 0) then min soonest (get_or due k 0) else soonest) → AreLater k due now soonest → AreLater (k + 1) due now less
later_after k due now soonest less is h = go (cases_lt now (get_or due k 0))
  where
    go : (now < get_or due k 0) ⊎ (get_or due k 0 ≤ now) → AreLater (k + 1) due now less
    go (inl l) =
        let same : less ≡ min soonest (get_or due k 0) = is ∙ ap (λ b. if b then min soonest (get_or due k 0) else soonest) (lt-ltb now (get_or due k 0) l) in
        later_more k due now soonest less h (omega (arith, same)) (λ y. omega (arith, same))
    go (inr l) =
        let same : less ≡ soonest = is ∙ ap (λ b. if b then min soonest (get_or due k 0) else soonest) (le-ltb now (get_or due k 0) l) in
        later_more k due now soonest less h (omega (arith, same)) (λ y. absurd (omega (arith, l, y)))

-- up to the next one who is there
pub later_next : (k n : ℕ) (due : List ℕ) (now soonest : ℕ) (there : List Bool) → n ≤ length due → AreLeft due now there → ((t : ℕ) → k ≤ t → t < n → is_there there (spot now t) ≡ false) → AreLater k due now soonest → AreLater n due now soonest
later_next k n due now soonest there within left none h = λ t l y e. go t l y e (cases_lt t k)
  where
    go : (t : ℕ) → t < n → now + 1 ≤ get_or due t 0 → get_or due t 0 % 256 ≡ now % 256 → (t < k) ⊎ (k ≤ t) → soonest ≤ get_or due t 0
    go t l y e (inl x) = h t x y e
    go t l y e (inr x) =
        let same : spot (get_or due t 0) t ≡ spot now t = ap (λ d. d * 1024 + t) e in
        let on : is_there there (spot now t) ≡ true = ap (λ i. is_there there i) (sym same) ∙ left t (omega (arith, l, within)) y in
        let off : is_there there (spot now t) ≡ false = none t x l in
        absurd (cc)

-- all were
pub noted_anew : (due : List ℕ) (now s : ℕ) (soonest : List ℕ) (c : Calendar) → c.soonest ≡ set soonest (now % 256) s → length soonest ≡ 256 → AreLeft due now c.there → AreLater (length due) due now s
    → ((t : ℕ) → t < length due → now + 1 ≤ get_or due t 0 → get_or soonest (get_or due t 0 % 256) 0 ≤ get_or due t 0) → AreNoted due (now + 1) c
noted_anew due now s soonest c is days left later before = λ t l y. (left t l y, subst (λ xs. get_or xs (get_or due t 0 % 256) 0 ≤ get_or due t 0) (sym is) (go t l y (cases_eq (get_or due t 0 % 256) (now % 256))))
  where
    go : (t : ℕ) → t < length due → now + 1 ≤ get_or due t 0 → (get_or due t 0 % 256 ≡ now % 256) ⊎ (get_or due t 0 % 256 ≡ now % 256 → ⊥) → get_or (set soonest (now % 256) s) (get_or due t 0 % 256) 0 ≤ get_or due t 0
    go t l y (inl e) = rw (e, get_or-set_same soonest (now % 256) s 0 (omega (arith, days))) (later t l y e)
    go t l y (inr d) = rw (get_or-set_other soonest (now % 256) (get_or due t 0 % 256) s 0 d) (before t l y)
