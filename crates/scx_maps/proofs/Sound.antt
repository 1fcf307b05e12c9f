-- Keys stay sound, whatever key comes or goes.
use Rattle.std.proofs.Common.{◌≡◌, ◌≢◌, ℕ, zero, suc, ◌+◌, ◌-◌, ◌<◌, ◌≤◌, ◌⊎◌, inl, inr, Bool, true, false, nat_eq, nat_lt, List, [], ◌∷◌, ◌++◌, length, take, set, get_or, Option, Some, None, if◌then◌else◌, refl, sym, ap, ◌∙◌, subst, arith, length-set, get_or-set_same}
use Rattle.std.specs.Prelude.{replicate, slice_get}
use Rattle.std.proofs.lemmas.Bool.{cases_lt, eqb-true, eqb-false, ne_eqb, ltb-true}
use Rattle.std.proofs.lemmas.List.{length-replicate}
use Rattle.std.proofs.lemmas.Option.{none-some, same_Some, slice_get-get_or, slice_get_within}
use Rattle.scx_isa_semantics.specs.Directories.{unused_slot, or_unused}
use Rattle.scx_maps.specs.Keeping.{AreSound}

-- ---- one thing of a list

-- a list of no keys
abbrev pub unheld : ℕ → List (Option ℕ)
unheld n = replicate n None

get_set-same : {X : Type 0} (xs : List X) (i : ℕ) (x : X) → i < length xs → slice_get (set xs i x) i ≡ Some x
get_set-same {X} xs i x h =
    slice_get-get_or (set xs i x) i x (omega (arith, h, length-set xs i x)) ∙ ap (λ (y : X). Some y) (get_or-set_same xs i x x h)

get_set-other : {X : Type 0} (xs : List X) (i j : ℕ) (x : X) → j ≢ i → slice_get (set xs i x) j ≡ slice_get xs j
get_set-other [] i j x ne = refl
get_set-other (y ∷ xs) zero zero x ne = absurd (ne refl)
get_set-other (y ∷ xs) zero (suc j) x ne = refl
get_set-other (y ∷ xs) (suc i) zero x ne = refl
get_set-other (y ∷ xs) (suc i) (suc j) x ne = get_set-other xs i j x (λ e. ne (ap (λ n. suc n) e))

-- the thing at a place of a list where one was set: that one, or another place
pub set_cases : {X : Type 0} (xs : List X) (i j : ℕ) (x y : X) → i < length xs → slice_get (set xs i x) j ≡ Some y → ((j ≡ i) × (x ≡ y)) ⊎ ((j ≢ i) × (slice_get xs j ≡ Some y))
set_cases xs i j x y h e = go (nat_eq j i) refl
  where
    go : (b : Bool) → nat_eq j i ≡ b → ((j ≡ i) × (x ≡ y)) ⊎ ((j ≢ i) × (slice_get xs j ≡ Some y))
    go true t =
        let same : j ≡ i = eqb-true j i t in
        inl (same, same_Some x y (sym (get_set-same xs i x h) ∙ ap (λ k. slice_get (set xs i x) k) (sym same) ∙ e))
    go false t =
        let ne : j ≢ i = eqb-false j i t in
        inr (ne, sym (get_set-other xs i j x ne) ∙ e)

-- the thing at a place of a list with one more: one of the list, or the last
push_cases : (xs : List ℕ) (x j y : ℕ) → slice_get (xs ++ x ∷ []) j ≡ Some y → (slice_get xs j ≡ Some y) ⊎ ((j ≡ length xs) × (x ≡ y))
push_cases [] x zero y e = inr (refl, same_Some x y e)
push_cases [] x (suc j) y e = absurd (none-some y e)
push_cases (z ∷ xs) x zero y e = inl e
push_cases (z ∷ xs) x (suc j) y e = go (push_cases xs x j y e)
  where
    go : ((slice_get xs j ≡ Some y) ⊎ ((j ≡ length xs) × (x ≡ y))) → (slice_get (z ∷ xs) (suc j) ≡ Some y) ⊎ ((suc j ≡ suc (length xs)) × (x ≡ y))
    go (inl f) = inl f
    go (inr f) = inr (ap (λ n. suc n) f.0, f.1)

-- the thing at a place of the front of a list
take_cases : (xs : List ℕ) (n j y : ℕ) → slice_get (take n xs) j ≡ Some y → (j < n) × (slice_get xs j ≡ Some y)
take_cases xs zero j y e = absurd (none-some y e)
take_cases [] (suc n) j y e = absurd (none-some y e)
take_cases (x ∷ xs) (suc n) zero y e = (omega arith, e)
take_cases (x ∷ xs) (suc n) (suc j) y e = let rest = take_cases xs n j y e in (omega (arith, rest.0), rest.1)

-- ---- no keys

unheld_at : (n s : ℕ) → s < n → slice_get (unheld n) s ≡ Some None
unheld_at zero s h = absurd (omega (arith, h))
unheld_at (suc n) zero h = refl
unheld_at (suc n) (suc s) h = unheld_at n s (omega (arith, h))

-- no keys are sound
pub new_sound : (n : ℕ) → AreSound (unheld n) [] 0
new_sound n = record {
  free = λ j s e. absurd (none-some s e);
  apart = λ i j s e f. absurd (none-some s e);
  before = λ j s e. absurd (none-some s e);
  never = λ s u h. unheld_at n s (omega (arith, h, length-replicate {A = Option ℕ} n None));
  within = omega arith;
}

-- ---- a key goes

none_stays : (held : List (Option ℕ)) (slot s : ℕ) → slot < length held → slice_get held s ≡ Some None → slice_get (set held slot None) s ≡ Some None
none_stays held slot s there e = go (nat_eq s slot) refl
  where
    go : (b : Bool) → nat_eq s slot ≡ b → slice_get (set held slot None) s ≡ Some None
    go true t = ap (λ i. slice_get (set held slot None) i) (eqb-true s slot t) ∙ get_set-same held slot None there
    go false t = get_set-other held slot s None (eqb-false s slot t) ∙ e

-- the slot of a key is one that was used
used_slot : (held : List (Option ℕ)) (freed : List ℕ) (used slot key : ℕ) → AreSound held freed used → slice_get held slot ≡ Some (Some key) → slot < used
used_slot held freed used slot key sound e = go (cases_lt slot used)
  where
    go : ((slot < used) ⊎ (used ≤ slot)) → slot < used
    go (inl lt) = lt
    go (inr le) = absurd (none-some key (same_Some None (Some key) (sym (sound.never slot le (slice_get_within held slot (Some key) e)) ∙ e)))

-- it isn't free
not_free : (held : List (Option ℕ)) (freed : List ℕ) (used slot key i : ℕ) → AreSound held freed used → slice_get held slot ≡ Some (Some key) → slice_get freed i ≡ Some slot → ⊥
not_free held freed used slot key i sound e f = none-some key (same_Some None (Some key) (sym (sound.free i slot f) ∙ e))

-- keys are sound without one
pub deleted_sound : (held : List (Option ℕ)) (freed : List ℕ) (used slot key : ℕ) → AreSound held freed used → slice_get held slot ≡ Some (Some key) → AreSound (set held slot None) (freed ++ slot ∷ []) used
deleted_sound held freed used slot key sound e = record {
  free = free;
  apart = apart;
  before = before;
  never = λ s u h. none_stays held slot s there (sound.never s u (omega (arith, h, long)));
  within = omega (arith, sound.within, long);
}
  where
    there : slot < length held
    there = slice_get_within held slot (Some key) e

    long : length (set held slot None) ≡ length held
    long = length-set held slot None

    free : (j s : ℕ) → slice_get (freed ++ slot ∷ []) j ≡ Some s → slice_get (set held slot None) s ≡ Some None
    free j s f = go (push_cases freed slot j s f)
      where
        go : (slice_get freed j ≡ Some s) ⊎ ((j ≡ length freed) × (slot ≡ s)) → slice_get (set held slot None) s ≡ Some None
        go (inl g) = none_stays held slot s there (sound.free j s g)
        go (inr g) = ap (λ i. slice_get (set held slot None) i) (sym g.1) ∙ get_set-same held slot None there

    apart : (i j s : ℕ) → slice_get (freed ++ slot ∷ []) i ≡ Some s → slice_get (freed ++ slot ∷ []) j ≡ Some s → i ≡ j
    apart i j s f g = go (push_cases freed slot i s f) (push_cases freed slot j s g)
      where
        go : (slice_get freed i ≡ Some s) ⊎ ((i ≡ length freed) × (slot ≡ s)) → (slice_get freed j ≡ Some s) ⊎ ((j ≡ length freed) × (slot ≡ s)) → i ≡ j
        go (inl a) (inl b) = sound.apart i j s a b
        go (inl a) (inr b) = absurd (not_free held freed used slot key i sound e (a ∙ ap (λ (n : ℕ). Some n) (sym b.1)))
        go (inr a) (inl b) = absurd (not_free held freed used slot key j sound e (b ∙ ap (λ (n : ℕ). Some n) (sym a.1)))
        go (inr a) (inr b) = a.0 ∙ sym b.0

    before : (j s : ℕ) → slice_get (freed ++ slot ∷ []) j ≡ Some s → s < used
    before j s f = go (push_cases freed slot j s f)
      where
        go : (slice_get freed j ≡ Some s) ⊎ ((j ≡ length freed) × (slot ≡ s)) → s < used
        go (inl g) = sound.before j s g
        go (inr g) = omega (arith, g.1, used_slot held freed used slot key sound e)

-- ---- a key comes

-- the slot that a new key takes, by the freed slots: that of the last one, or the first never used
abbrev pub slot_taken : List (Option ℕ) → List ℕ → ℕ → Option ℕ
slot_taken held freed used = or_unused (slice_get freed (length freed - 1)) (unused_slot (record { held = held; freed = freed; used = used }))

-- keys are sound with a new one in the slot that was freed last
freed_sound : (held : List (Option ℕ)) (freed : List ℕ) (used slot key : ℕ) → AreSound held freed used → slice_get freed (length freed - 1) ≡ Some slot
    → AreSound (set held slot (Some key)) (take (length freed - 1) freed) used
freed_sound held freed used slot key sound last = record {
  free = λ j s f. let part = take_cases freed (length freed - 1) j s f in get_set-other held slot s (Some key) (other j s part.0 part.1) ∙ sound.free j s part.1;
  apart = λ i j s f g. sound.apart i j s (take_cases freed (length freed - 1) i s f).1 (take_cases freed (length freed - 1) j s g).1;
  before = λ j s f. sound.before j s (take_cases freed (length freed - 1) j s f).1;
  never = λ s u h. get_set-other held slot s (Some key) (λ same. omega (arith, same, u, sound.before (length freed - 1) slot last)) ∙ sound.never s u (omega (arith, h, long));
  within = omega (arith, sound.within, long);
}
  where
    long : length (set held slot (Some key)) ≡ length held
    long = length-set held slot (Some key)

    other : (j s : ℕ) → j < length freed - 1 → slice_get freed j ≡ Some s → s ≢ slot
    other j s below f same =
        let place : j ≡ length freed - 1 = sound.apart j (length freed - 1) slot (f ∙ ap (λ (n : ℕ). Some n) same) last in
        omega (arith, place, below)

-- there is a freed slot
pub some_freed : (x : ℕ) (freed : List ℕ) → nat_eq (length (x ∷ freed)) 0 ≡ false
some_freed x freed = ne_eqb (length (x ∷ freed)) 0 (λ e. omega (arith, e))

-- or in the first slot that was never used
unused_sound : (held : List (Option ℕ)) (used key : ℕ) → AreSound held [] used → used < length held → AreSound (set held used (Some key)) [] (used + 1)
unused_sound held used key sound there = record {
  free = λ j s f. absurd (none-some s f);
  apart = λ i j s f g. absurd (none-some s f);
  before = λ j s f. absurd (none-some s f);
  never = λ s u h. get_set-other held used s (Some key) (λ same. omega (arith, same, u)) ∙ sound.never s (omega (arith, u)) (omega (arith, h, long));
  within = omega (arith, there, long);
}
  where
    long : length (set held used (Some key)) ≡ length held
    long = length-set held used (Some key)

-- keys are sound with a new one in the slot that it takes
pub taken_sound : (held : List (Option ℕ)) (freed : List ℕ) (used slot key : ℕ) → AreSound held freed used → slot_taken held freed used ≡ Some slot
    → AreSound (set held slot (Some key)) (take (length freed - 1) freed) (if nat_eq (length freed) 0 then used + 1 else used)
taken_sound held [] used slot key sound free = go (nat_lt used (length held)) refl free
  where
    go : (b : Bool) → nat_lt used (length held) ≡ b → (if b then Some used else None) ≡ Some slot → AreSound (set held slot (Some key)) [] (used + 1)
    go true t f = subst (λ s. AreSound (set held s (Some key)) [] (used + 1)) (same_Some used slot f) (unused_sound held used key sound (ltb-true used (length held) t))
    go false t f = absurd (none-some slot f)
taken_sound held (x ∷ freed) used slot key sound free =
    subst
    (λ b. AreSound (set held slot (Some key)) (take (length (x ∷ freed) - 1) (x ∷ freed)) (if b then used + 1 else used))
    (sym (some_freed x freed)) (go (slice_get (x ∷ freed) (length (x ∷ freed) - 1)) refl free)
  where
    go : (o : Option ℕ) → slice_get (x ∷ freed) (length (x ∷ freed) - 1) ≡ o → or_unused o (unused_slot (record { held = held; freed = x ∷ freed; used = used })) ≡ Some slot
        → AreSound (set held slot (Some key)) (take (length (x ∷ freed) - 1) (x ∷ freed)) used
    go (Some r) e f = freed_sound held (x ∷ freed) used slot key sound (e ∙ f)
    go None e f =
        let last = slice_get-get_or (x ∷ freed) (length (x ∷ freed) - 1) 0 (omega arith) in
        absurd (none-some (get_or (x ∷ freed) (length (x ∷ freed) - 1) 0) (sym e ∙ last))

-- that slot holds no key
pub taken_holds_none : (held : List (Option ℕ)) (freed : List ℕ) (used slot : ℕ) → AreSound held freed used → slot_taken held freed used ≡ Some slot → slice_get held slot ≡ Some None
taken_holds_none held freed used slot sound free = go (slice_get freed (length freed - 1)) refl free
  where
    unused : (b : Bool) → nat_lt used (length held) ≡ b → (if b then Some used else None) ≡ Some slot → slice_get held slot ≡ Some None
    unused true t f = subst (λ s. slice_get held s ≡ Some None) (same_Some used slot f) (sound.never used (omega arith) (ltb-true used (length held) t))
    unused false t f = absurd (none-some slot f)

    go : (o : Option ℕ) → slice_get freed (length freed - 1) ≡ o → or_unused o (unused_slot (record { held = held; freed = freed; used = used })) ≡ Some slot → slice_get held slot ≡ Some None
    go (Some r) e f = sound.free (length freed - 1) slot (e ∙ f)
    go None e f = unused (nat_lt used (length held)) refl f
