-- Where a key is after keys came and went.
use Rattle.std.proofs.Common.{◌≡◌, ◌≢◌, ℕ, zero, suc, ◌<◌, ◌⊎◌, inl, inr, Bool, true, false, nat_eq, List, [], ◌∷◌, length, set, Option, Some, None, option_map, if◌then◌else◌, refl, sym, ap, ◌∙◌, arith}
use Rattle.std.specs.Prelude.{slice_get}
use Rattle.std.proofs.lemmas.Bool.{eqb-true, eq-eqb}
use Rattle.std.proofs.lemmas.Option.{none-some, same_Some, slice_get_within}
use Rattle.scx_isa_semantics.specs.Directories.{holds_key, slot_of}
use Rattle.scx_maps.specs.Keeping.{AreApart}
use Rattle.scx_maps.proofs.SlotOf.{slot_of-holds, slot_of-some, slot_absent}
use Rattle.scx_maps.proofs.Sound.{set_cases}

-- the first slot of a list, or a later one
abbrev first_or : Bool → Option ℕ → Option ℕ
first_or b later = if b then Some 0 else option_map suc later

none_later : (o : Option ℕ) → option_map suc o ≡ None → o ≡ None
none_later None e = refl
none_later (Some s) e = absurd (none-some (suc s) (sym e))

-- a key that no slot holds is found where it is put
pub put_is_found : (held : List (Option ℕ)) (k s : ℕ) → slot_of held k ≡ None → s < length held → slot_of (set held s (Some k)) k ≡ Some s
put_is_found [] k s absent h = absurd (omega (arith, h))
put_is_found (x ∷ held) k zero absent h = ap (λ b. first_or b (slot_of held k)) (eq-eqb k k refl)
put_is_found (x ∷ held) k (suc s) absent h = go (holds_key k x) (λ e. put_is_found held k s e (omega (arith, h))) absent
  where
    go : (b : Bool) → (slot_of held k ≡ None → slot_of (set held s (Some k)) k ≡ Some s) → first_or b (slot_of held k) ≡ None → first_or b (slot_of (set held s (Some k)) k) ≡ Some (suc s)
    go true later e = absurd (none-some 0 (sym e))
    go false later e = ap (option_map suc) (later (none_later (slot_of held k) e))

-- a key is where it was where another slot gets another thing
pub others_are_found : (held : List (Option ℕ)) (k s : ℕ) (o : Option ℕ) → holds_key k o ≡ false → ((x : Option ℕ) → slice_get held s ≡ Some x → holds_key k x ≡ false) → slot_of (set held s o) k ≡ slot_of held k
others_are_found [] k s o new old = refl
others_are_found (x ∷ held) k zero o new old = ap (λ b. first_or b (slot_of held k)) (new ∙ sym (old x refl))
others_are_found (x ∷ held) k (suc s) o new old = ap (λ r. first_or (holds_key k x) r) (others_are_found held k s o new old)

-- another key isn't it
pub other_holds : (k j : ℕ) → j ≢ k → holds_key j (Some k) ≡ false
other_holds k j ne = go (nat_eq k j) refl
  where
    go : (b : Bool) → nat_eq k j ≡ b → nat_eq k j ≡ false
    go false t = t
    go true t = absurd (ne (sym (eqb-true k j t)))

-- a key that is taken out of the only slot that holds it is in none
pub taken_is_absent : (held : List (Option ℕ)) (k s : ℕ) → AreApart held → slot_of held k ≡ Some s → slot_of (set held s None) k ≡ None
taken_is_absent held k s apart e = sym (slot_absent (set held s None) k none)
  where
    there : slice_get held s ≡ Some (Some k)
    there = slot_of-holds held k s e

    none : (r : ℕ) → slice_get (set held s None) r ≡ Some (Some k) → ⊥
    none r f = go (set_cases held s r None (Some k) (slice_get_within held s (Some k) there) f)
      where
        go : ((r ≡ s) × (◌≡◌ {A = Option ℕ} None (Some k))) ⊎ ((r ≢ s) × (slice_get held r ≡ Some (Some k))) → ⊥
        go (inl g) = none-some k g.1
        go (inr g) = g.0 (apart r s k g.1 there)

-- keys are apart with a new one
pub put_apart : (held : List (Option ℕ)) (k s : ℕ) → AreApart held → slot_of held k ≡ None → s < length held → AreApart (set held s (Some k))
put_apart held k s apart absent h r t j e f = go (set_cases held s r (Some k) (Some j) h e) (set_cases held s t (Some k) (Some j) h f)
  where
    Case : ℕ → Type 0
    Case i = ((i ≡ s) × (◌≡◌ {A = Option ℕ} (Some k) (Some j))) ⊎ ((i ≢ s) × (slice_get held i ≡ Some (Some j)))

    not_held : (i : ℕ) → ◌≡◌ {A = Option ℕ} (Some k) (Some j) → slice_get held i ≡ Some (Some j) → ⊥
    not_held i same g =
        let key : k ≡ j = same_Some k j same in
        let some = slot_of-some held k i (g ∙ ap (λ (n : ℕ). Some (Some n)) (sym key)) in
        none-some some.0 (sym absent ∙ some.1)

    go : Case r → Case t → r ≡ t
    go (inl a) (inl b) = a.0 ∙ sym b.0
    go (inl a) (inr b) = absurd (not_held t a.1 b.1)
    go (inr a) (inl b) = absurd (not_held r b.1 a.1)
    go (inr a) (inr b) = apart r t j a.1 b.1

-- and without one
pub taken_apart : (held : List (Option ℕ)) (k s : ℕ) → AreApart held → slice_get held s ≡ Some (Some k) → AreApart (set held s None)
taken_apart held k s apart there r t j e f = go (set_cases held s r None (Some j) h e) (set_cases held s t None (Some j) h f)
  where
    h : s < length held
    h = slice_get_within held s (Some k) there

    Case : ℕ → Type 0
    Case i = ((i ≡ s) × (◌≡◌ {A = Option ℕ} None (Some j))) ⊎ ((i ≢ s) × (slice_get held i ≡ Some (Some j)))

    go : Case r → Case t → r ≡ t
    go (inl a) b = absurd (none-some j a.1)
    go (inr a) (inl b) = absurd (none-some j b.1)
    go (inr a) (inr b) = apart r t j a.1 b.1
