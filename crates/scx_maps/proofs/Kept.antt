-- Keys stay as they are kept, whatever key comes or goes.
use Rattle.std.proofs.Common.{◌≡◌, ◌≢◌, ℕ, zero, suc, ◌+◌, ◌-◌, ◌<◌, ◌≤◌, ◌⊎◌, inl, inr, Bool, true, false, not, is_some, nat_eq, List, [], ◌∷◌, ◌++◌, length, take, set, Option, Some, None, if◌then◌else◌, refl, sym, ap, ◌∙◌, subst, arith, length-set, length-append, length-take-le}
use Rattle.std.specs.Prelude.{slice_get}
use Rattle.std.specs.Option.{MatchOption}
use Rattle.std.proofs.lemmas.Bool.{eq-eqb, ne_eqb, false≢true}
use Rattle.std.proofs.lemmas.List.{length-replicate}
use Rattle.std.proofs.lemmas.Option.{none-some, same_Some, slice_get_within}
use Rattle.indexmap.specs.IndexMap.{IndexMap, index_map_len, spare}
use Rattle.scx_maps.specs.Keeping.{live, finds, AreApart, LeadsTo, IsIndexed}
use Rattle.scx_maps.proofs.SlotOf.{live-set}
use Rattle.scx_maps.proofs.Sound.{unheld, set_cases, new_sound, deleted_sound, slot_taken, some_freed, taken_sound, taken_holds_none}

-- ---- no keys

-- none of them holds one
pub none_held : (n s k : ℕ) → slice_get (unheld n) s ≡ Some (Some k) → ⊥
none_held zero s k e = none-some (Some k) e
none_held (suc n) zero k e = none-some k (same_Some None (Some k) e)
none_held (suc n) (suc s) k e = none_held n s k e

live_none : (n : ℕ) → live (unheld n) ≡ 0
live_none zero = refl
live_none (suc n) = live_none n

-- new keys are none
pub new_kept : {S : Type 0} (n capacity : ℕ) (index : IndexMap ℕ ℕ S) → n ≤ capacity → n + n ≤ index_map_len index + spare index → n < 4294967296 → IsIndexed (unheld n) [] 0 capacity index
new_kept n capacity index fits room few =
    let long : length (unheld n) ≡ n = length-replicate {A = Option ℕ} n None in
    record {
      led = λ s k e. absurd (none_held n s k e);
      room = omega (arith, room, long);
      sound = new_sound n;
      counted = omega (arith, live_none n);
      reserved = omega (arith, fits, long);
      few = omega (arith, few, long);
    }

-- ---- a key goes

-- there is room to free a slot that holds a key
pub room_to_free : {S : Type 0} (held : List (Option ℕ)) (freed : List ℕ) (used capacity : ℕ) (index : IndexMap ℕ ℕ S) → IsIndexed held freed used capacity index → 0 < live held → length freed < capacity
room_to_free held freed used capacity index kept some = omega (arith, kept.counted, kept.sound.within, kept.reserved, some)

-- the slot of a key that goes is free
pub deleted_kept : {S : Type 0} (held : List (Option ℕ)) (freed : List ℕ) (used capacity : ℕ) (index : IndexMap ℕ ℕ S) (slot key : ℕ) → IsIndexed held freed used capacity index → slice_get held slot ≡ Some (Some key)
    → IsIndexed (set held slot None) (freed ++ slot ∷ []) used capacity index
deleted_kept held freed used capacity index slot key kept e = record {
  led = led;
  room = omega (arith, kept.room, long);
  sound = deleted_sound held freed used slot key kept.sound e;
  counted = omega (arith, kept.counted, live-set held slot (Some key) None e, length-append freed (slot ∷ []));
  reserved = omega (arith, kept.reserved, long);
  few = omega (arith, kept.few, long);
}
  where
    long : length (set held slot None) ≡ length held
    long = length-set held slot None

    led : LeadsTo index (set held slot None)
    led s k f = go (set_cases held slot s None (Some k) (slice_get_within held slot (Some key) e) f)
      where
        go : ((s ≡ slot) × (◌≡◌ {A = Option ℕ} None (Some k))) ⊎ ((s ≢ slot) × (slice_get held s ≡ Some (Some k))) → finds index k ≡ Some s
        go (inl g) = absurd (none-some k g.1)
        go (inr g) = kept.led s k g.1

-- ---- a key comes

-- an index leads to a new key, and to all others as before
new_led : {S : Type 0} (held : List (Option ℕ)) (index : IndexMap ℕ ℕ S) (slot key : ℕ) → slice_get held slot ≡ Some None → finds index key ≡ Some slot → LeadsTo index held → LeadsTo index (set held slot (Some key))
new_led held index slot key e found others s k f = go (set_cases held slot s (Some key) (Some k) (slice_get_within held slot None e) f)
  where
    go : ((s ≡ slot) × (◌≡◌ {A = Option ℕ} (Some key) (Some k))) ⊎ ((s ≢ slot) × (slice_get held s ≡ Some (Some k))) → finds index k ≡ Some s
    go (inl g) = ap (λ i. finds index i) (sym (same_Some key k g.1)) ∙ found ∙ ap (λ (n : ℕ). Some n) (sym g.0)
    go (inr g) = others s k g.1

-- one more slot is in use
counted_on : (held : List (Option ℕ)) (freed : List ℕ) (used slot key : ℕ) → slice_get held slot ≡ Some None → length freed + live held ≡ used
    → length (take (length freed - 1) freed) + live (set held slot (Some key)) ≡ (if nat_eq (length freed) 0 then used + 1 else used)
counted_on held [] used slot key none counted = omega (arith, counted, live-set held slot None (Some key) none)
counted_on held (x ∷ freed) used slot key none counted =
    let left = length-take-le (length (x ∷ freed) - 1) (x ∷ freed) (omega arith) in
    let more = live-set held slot None (Some key) none in
    let sum : length (take (length (x ∷ freed) - 1) (x ∷ freed)) + live (set held slot (Some key)) ≡ used = omega (arith, counted, more, left) in
    sum ∙ sym (ap (λ b. if b then used + 1 else used) (some_freed x freed))

-- a new key takes the free slot
pub taken_kept : {S T : Type 0} (held : List (Option ℕ)) (freed : List ℕ) (used capacity : ℕ) (old : IndexMap ℕ ℕ S) (index : IndexMap ℕ ℕ T) (slot key : ℕ) → IsIndexed held freed used capacity old
    → slot_taken held freed used ≡ Some slot → finds index key ≡ Some slot → LeadsTo index held → length held + length held ≤ index_map_len index + spare index
    → IsIndexed (set held slot (Some key)) (take (length freed - 1) freed) (if nat_eq (length freed) 0 then used + 1 else used) capacity index
taken_kept held freed used capacity old index slot key kept free found others room =
    let none = taken_holds_none held freed used slot kept.sound free in
    let long : length (set held slot (Some key)) ≡ length held = length-set held slot (Some key) in
    record {
      led = new_led held index slot key none found others;
      room = omega (arith, room, long);
      sound = taken_sound held freed used slot key kept.sound free;
      counted = counted_on held freed used slot key none kept.counted;
      reserved = omega (arith, kept.reserved, long);
      few = omega (arith, kept.few, long);
    }

-- the same, however what is left of the keys is named
pub taken_kept_as : {S T : Type 0} (held : List (Option ℕ)) (freed : List ℕ) (used capacity : ℕ) (old : IndexMap ℕ ℕ S) (index : IndexMap ℕ ℕ T) (slot key : ℕ) (now shown : List (Option ℕ)) (left : List ℕ) (after room_after : ℕ)
    → IsIndexed held freed used capacity old → slot_taken held freed used ≡ Some slot → finds index key ≡ Some slot → LeadsTo index shown → length shown + length shown ≤ index_map_len index + spare index → shown ≡ now
    → now ≡ held → left ≡ take (length freed - 1) freed → after ≡ (if nat_eq (length freed) 0 then used + 1 else used) → room_after ≡ capacity → IsIndexed (set now slot (Some key)) left after room_after index
taken_kept_as held freed used capacity old index slot key now shown left after room_after kept free found others room same as_held as_left as_used as_capacity =
    let all : shown ≡ held = same ∙ as_held in
    let led : LeadsTo index held = subst (λ (xs : List (Option ℕ)). LeadsTo index xs) all others in
    let spare_there : length held + length held ≤ index_map_len index + spare index = subst (λ (xs : List (Option ℕ)). length xs + length xs ≤ index_map_len index + spare index) all room in
    rw (as_held, as_left, as_used, as_capacity) (taken_kept held freed used capacity old index slot key kept free found led spare_there)

-- the first slot that was never used moves on where no slot was freed
pub used_on : (o : Option ℕ) (b : Bool) (n m used : ℕ) → is_some o ≡ not b → MatchOption o ((n ≡ 0) × (m ≡ 0)) (λ _. m + 1 ≡ n) → (if nat_eq n 0 then used + 1 else used) ≡ (if b then used + 1 else used)
used_on None true n m used e h = ap (λ b. if b then used + 1 else used) (eq-eqb n 0 h.0)
used_on None false n m used e h = absurd (false≢true e)
used_on (Some s) true n m used e h = absurd (false≢true (sym e))
used_on (Some s) false n m used e h = ap (λ b. if b then used + 1 else used) (ne_eqb n 0 (λ none. omega (arith, none, h)))

-- keys to which an index leads are apart
pub led_apart : {S : Type 0} (held : List (Option ℕ)) (index : IndexMap ℕ ℕ S) → LeadsTo index held → AreApart held
led_apart held index led s r k e f = same_Some s r (sym (led s k e) ∙ led r k f)
