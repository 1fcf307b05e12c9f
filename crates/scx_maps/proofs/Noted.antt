-- The index of keys, as it is noted where they are and as it is made anew.
use Rattle.std.proofs.Common.{◌≡◌, ℕ, zero, suc, ◌+◌, ◌<◌, ◌≤◌, ◌⊎◌, inl, inr, Bool, true, false, nat_eq, List, [], ◌∷◌, length, take, get_or, Option, Some, None, Result, Ok, Err, if◌then◌else◌, is_some, refl, sym, ap, ◌∙◌, arith, length-take-le}
use Rattle.std.specs.Prelude.{slice_get, IsOk, IfOk, OnOk}
use Rattle.std.specs.Cmp.{nat_eq_equiv}
use Rattle.std.specs.Map.{keys_of}
use Rattle.std.proofs.lemmas.Bool.{cases_lt, eqb-true, false≢true}
use Rattle.std.proofs.lemmas.List.Quantifiers.{position-Some}
use Rattle.std.proofs.lemmas.Option.{none-some, same_Some}
use Rattle.indexmap.specs.IndexMap.{IndexMap, IsUnique, Updates, index_map_len, spare, index_of_by, keys, with_value_at}
use Rattle.indexmap.proofs.CallerLemmas.{updates-with_value_at}
use Rattle.scx_isa_semantics.specs.Directories.{slot_of}
use Rattle.scx_maps.specs.Keeping.{live, finds, AreApart, LeadsTo}
use Rattle.scx_maps.proofs.SlotOf.{slot_of-some, slot_absent, live-le}

-- ---- a key that is noted

key_entry : (es : List (ℕ × ℕ)) (i : ℕ) → i < length (keys_of es) → (v : ℕ) × (slice_get es i ≡ Some (get_or (keys_of es) i 0, v))
key_entry [] i h = absurd (omega (arith, h))
key_entry (e ∷ es) zero h = (e.1, refl)
key_entry (e ∷ es) (suc i) h = key_entry es i (omega (arith, h))

-- a slot written at a key's place in the index is the key's
pub noted_at : {S : Type 0} (index : IndexMap ℕ ℕ S) (key place slot : ℕ) → IsUnique nat_eq index → index_of_by (nat_eq key) index ≡ Some place → Updates nat_eq index (with_value_at index place slot) key (Some slot)
noted_at index key place slot unique found =
    let there = position-Some (nat_eq key) (keys index) place 0 found in
    let entry = key_entry index.entries place there.0 in
    let same : key ≡ get_or (keys index) place 0 = eqb-true key (get_or (keys index) place 0) there.1 in
    updates-with_value_at index place slot nat_eq_equiv unique key entry.0 (entry.1 ∙ ap (λ (k : ℕ). Some (k, entry.0)) (sym same))

-- two keys of which one is held are others where the other isn't
other_key : (held : List (Option ℕ)) (key s k : ℕ) → slot_of held key ≡ None → slice_get held s ≡ Some (Some k) → nat_eq key k ≡ false
other_key held key s k absent e = go (nat_eq key k) refl
  where
    go : (b : Bool) → nat_eq key k ≡ b → nat_eq key k ≡ false
    go false t = t
    go true t =
        let same : key ≡ k = eqb-true key k t in
        let some = slot_of-some held key s (e ∙ ap (λ (n : ℕ). Some (Some n)) (sym same)) in
        absurd (none-some some.0 (sym absent ∙ some.1))

-- an index leads to what it led to where a new key is noted
pub led_on : {S T : Type 0} (held : List (Option ℕ)) (index : IndexMap ℕ ℕ S) (noted : IndexMap ℕ ℕ T) (key slot : ℕ) → LeadsTo index held → slot_of held key ≡ None
    → ((k : ℕ) → nat_eq key k ≡ false → finds noted k ≡ finds index k) → LeadsTo noted held
led_on held index noted key slot led absent others s k e = others k (other_key held key s k absent e) ∙ led s k e

-- ---- an index that is made anew

-- a thing at a place of the front of a list
front_cases : {X : Type 0} (xs : List X) (n j : ℕ) (y : X) → slice_get (take n xs) j ≡ Some y → (j < n) × (slice_get xs j ≡ Some y)
front_cases xs zero j y e = absurd (none-some y e)
front_cases [] (suc n) j y e = absurd (none-some y e)
front_cases (x ∷ xs) (suc n) zero y e = (omega arith, e)
front_cases (x ∷ xs) (suc n) (suc j) y e = let rest = front_cases xs n j y e in (omega (arith, rest.0), rest.1)

-- is there in the front, too
in_front : {X : Type 0} (xs : List X) (n j : ℕ) (y : X) → j < n → slice_get xs j ≡ Some y → slice_get (take n xs) j ≡ Some y
in_front xs zero j y h e = absurd (omega (arith, h))
in_front [] (suc n) j y h e = e
in_front (x ∷ xs) (suc n) zero y h e = e
in_front (x ∷ xs) (suc n) (suc j) y h e = in_front xs n j y (omega (arith, h)) e

-- how many keys the first slots hold
pub live_more : (held : List (Option ℕ)) (n : ℕ) (o : Option ℕ) → slice_get held n ≡ Some o → live (take (n + 1) held) ≡ live (take n held) + live (o ∷ [])
live_more [] n o e = absurd (none-some o e)
live_more (h ∷ held) zero o e =
    let none : live (o ∷ []) ≡ 0 + live (o ∷ []) = omega arith in
    ap (λ (k : Option ℕ). live (k ∷ [])) (same_Some h o e) ∙ none
live_more (None ∷ held) (suc n) o e =
    let next : suc n + 1 ≡ suc (n + 1) = omega arith in
    ap (λ i. live (take i (None ∷ held))) next ∙ live_more held n o e
live_more (Some k ∷ held) (suc n) o e =
    let next : suc n + 1 ≡ suc (n + 1) = omega arith in
    let rest = live_more held n o e in
    let one : suc (live (take (n + 1) held)) ≡ suc (live (take n held)) + live (o ∷ []) = omega (arith, rest) in
    ap (λ i. live (take i (Some k ∷ held))) next ∙ one

-- a slot that holds no key adds nothing
pub again_none : {S : Type 0} (held : List (Option ℕ)) (index : IndexMap ℕ ℕ S) (n : ℕ) → slice_get held n ≡ Some None → LeadsTo index (take n held) → LeadsTo index (take (n + 1) held)
again_none held index n none led s k e = go (cases_lt s n)
  where
    part : (s < n + 1) × (slice_get held s ≡ Some (Some k))
    part = front_cases held (n + 1) s (Some k) e

    go : (s < n) ⊎ (n ≤ s) → finds index k ≡ Some s
    go (inl lt) = led s k (in_front held n s (Some k) lt part.1)
    go (inr ge) =
        let last : s ≡ n = omega (arith, ge, part.0) in
        absurd (none-some k (same_Some None (Some k) (sym none ∙ ap (λ i. slice_get held i) (sym last) ∙ part.1)))

-- one that does adds its key
pub again_led : {S T : Type 0} (held : List (Option ℕ)) (index : IndexMap ℕ ℕ S) (noted : IndexMap ℕ ℕ T) (n key : ℕ) → AreApart held → slice_get held n ≡ Some (Some key) → finds noted key ≡ Some n
    → ((k : ℕ) → nat_eq key k ≡ false → finds noted k ≡ finds index k) → LeadsTo index (take n held) → LeadsTo noted (take (n + 1) held)
again_led held index noted n key apart there found others led s k e = go (cases_lt s n)
  where
    part : (s < n + 1) × (slice_get held s ≡ Some (Some k))
    part = front_cases held (n + 1) s (Some k) e

    other : s < n → (b : Bool) → nat_eq key k ≡ b → nat_eq key k ≡ false
    other lt false t = t
    other lt true t =
        let same : key ≡ k = eqb-true key k t in
        let place : s ≡ n = apart s n k part.1 (there ∙ ap (λ (i : ℕ). Some (Some i)) same) in
        absurd (omega (arith, place, lt))

    go : (s < n) ⊎ (n ≤ s) → finds noted k ≡ Some s
    go (inl lt) = others k (other lt (nat_eq key k) refl) ∙ led s k (in_front held n s (Some k) lt part.1)
    go (inr ge) =
        let last : s ≡ n = omega (arith, ge, part.0) in
        let same : key ≡ k = same_Some key k (same_Some (Some key) (Some k) (sym there ∙ ap (λ i. slice_get held i) (sym last) ∙ part.1)) in
        ap (λ i. finds noted i) (sym same) ∙ found ∙ ap (λ (i : ℕ). Some i) (sym last)

-- a key that a later slot holds isn't in the first ones
pub later_absent : (held : List (Option ℕ)) (n key : ℕ) → AreApart held → slice_get held n ≡ Some (Some key) → slot_of (take n held) key ≡ None
later_absent held n key apart there = sym (slot_absent (take n held) key none)
  where
    none : (s : ℕ) → slice_get (take n held) s ≡ Some (Some key) → ⊥
    none s e =
        let part = front_cases held n s (Some key) e in
        let same : s ≡ n = apart s n key part.1 there in
        omega (arith, same, part.0)

-- a key that none of the first slots holds isn't in fewer of them
pub fewer_absent : (held : List (Option ℕ)) (n key : ℕ) → slot_of (take (n + 1) held) key ≡ None → slot_of (take n held) key ≡ None
fewer_absent held n key absent = sym (slot_absent (take n held) key none)
  where
    none : (s : ℕ) → slice_get (take n held) s ≡ Some (Some key) → ⊥
    none s e =
        let part = front_cases held n s (Some key) e in
        let some = slot_of-some (take (n + 1) held) key s (in_front held (n + 1) s (Some key) (omega (arith, part.0)) part.1) in
        none-some some.0 (sym absent ∙ some.1)

-- and isn't the one in the last of them
pub last_other : (held : List (Option ℕ)) (n last key : ℕ) → slice_get held n ≡ Some (Some last) → slot_of (take (n + 1) held) key ≡ None → nat_eq last key ≡ false
last_other held n last key there absent = go (nat_eq last key) refl
  where
    go : (b : Bool) → nat_eq last key ≡ b → nat_eq last key ≡ false
    go false t = t
    go true t =
        let same : last ≡ key = eqb-true last key t in
        let some = slot_of-some (take (n + 1) held) key n (in_front held (n + 1) n (Some key) (omega arith) (there ∙ ap (λ (i : ℕ). Some (Some i)) same)) in
        absurd (none-some some.0 (sym absent ∙ some.1))

-- ---- steps

-- a new key and its slot are noted: the index finds it there, and all others where it found them
pub record Notes {S : Type 0} (index noted : IndexMap ℕ ℕ S) (key slot : ℕ) : Type 0 where
  pub found : finds noted key ≡ Some slot
  pub others : (k : ℕ) → nat_eq key k ≡ false → finds noted k ≡ finds index k
  pub len : index_map_len noted ≡ index_map_len index + 1
  pub room : spare index ≤ spare noted + 1

-- the entries that a key adds where it had that value
abbrev more_by : Option ℕ → ℕ
more_by o = if is_some o then 0 else 1

-- a new key finds its place in an index with room
pub inserted : {S X : Type 0} (r : Result (Option ℕ) X) (index noted : IndexMap ℕ ℕ S) (key slot : ℕ) → 0 < spare index → finds index key ≡ None
    → (0 < spare index → IsOk r) → IfOk r (λ old. old ≡ finds index key) → OnOk r (Updates nat_eq index noted key (Some slot))
    → IfOk r (λ old. index_map_len noted ≡ index_map_len index + (if is_some old then 0 else 1)) → spare index ≤ spare noted + 1 → Notes index noted key slot
inserted (Ok old) index noted key slot some absent ok was updates len room =
    let none : old ≡ None = was ∙ absent in
    let new : ◌≡◌ {A = ℕ} (if is_some old then 0 else 1) 1 = ap (λ (o : Option ℕ). more_by o) none in
    record { found = updates.1; others = updates.2; len = omega (arith, len, new); room = room }
inserted (Err e) index noted key slot some absent ok was updates len room = absurd (false≢true (ok some))

-- the index of the keys in the first n slots, and of no others, with the room that it needs
pub record IsMadeTo {S : Type 0} (held : List (Option ℕ)) (n : ℕ) (index : IndexMap ℕ ℕ S) : Type 0 where
  pub led : LeadsTo index (take n held)
  pub few : index_map_len index ≤ live (take n held)
  pub room : length held + length held ≤ index_map_len index + spare index
  pub absent : (key : ℕ) → slot_of (take n held) key ≡ None → finds index key ≡ None

-- a slot that holds no key adds none
pub made_none : {S : Type 0} (held : List (Option ℕ)) (n : ℕ) (index : IndexMap ℕ ℕ S) → slice_get held n ≡ Some None → IsMadeTo held n index → IsMadeTo held (n + 1) index
made_none held n index none made = record {
  led = again_none held index n none made.led;
  few = omega (arith, made.few, live_more held n None none);
  room = made.room;
  absent = λ key e. made.absent key (fewer_absent held n key e);
}

-- there is room for one more key
pub made_room : {S : Type 0} (held : List (Option ℕ)) (n : ℕ) (index : IndexMap ℕ ℕ S) → n < length held → IsMadeTo held n index → 0 < spare index
made_room held n index within made =
    omega (arith, made.few, made.room, live-le (take n held), length-take-le n held (omega (arith, within)), within)

-- one that does adds its key
pub made_some : {S : Type 0} (held : List (Option ℕ)) (n key : ℕ) (index noted : IndexMap ℕ ℕ S) → AreApart held → slice_get held n ≡ Some (Some key) → IsMadeTo held n index → Notes index noted key n
    → IsMadeTo held (n + 1) noted
made_some held n key index noted apart there made notes = record {
  led = again_led held index noted n key apart there notes.found notes.others made.led;
  few = omega (arith, made.few, notes.len, live_more held n (Some key) there);
  room = omega (arith, made.room, notes.len, notes.room);
  absent = λ k e. notes.others k (last_other held n key k there e) ∙ made.absent k (fewer_absent held n k e);
}
