-- Under a key is what was written there last, whatever map has the key.
use Rattle.std.proofs.Common.{◌≡◌, ◌≢◌, ℕ, ◌+◌, ◌*◌, ◌/◌, ◌<◌, Bool, true, false, ◌&&◌, nat_eq, nat_lt, List, [], get_or, Option, Some, None, option_map, Result, Ok, Err, if◌then◌else◌, refl, sym, ap, ◌∙◌, subst, arith, get_or-set_same, get_or-set_other}
use Rattle.std.proofs.lemmas.Bool.{ltb-true, and_parts}
use Rattle.std.proofs.lemmas.Nat.{div-add-mod', mul-add-lt}
use Rattle.std.proofs.lemmas.Option.{none-some, same_Some, slice_get_within}
use Rattle.scx_isa_semantics.specs.declared.map_kinds.KeySize.{KeySize}
use Rattle.scx_isa_semantics.specs.Directories.{Keys, Directory, Array, PerCpu, Hash, Queue, Stack, Placed, stays, kind_of, copies, array_slot, copy_slot, array_updated, slot_of, free_slot, key_added, key_updated, key_deleted, seek, updated_in, updated, deleted, invalid, is_there, not_there}
use Rattle.scx_isa_semantics.specs.Elements.{Maps, directory, with_directory, elements, element, with_element}
use Rattle.scx_isa_semantics.specs.Serving.{slot_count, code_of, stored_in}
use Rattle.scx_maps.specs.Laws.{value_at, AreKeys, IsSoundFor, WritesTheKey, WritesNoOtherKey, TakesTheKey, TakesNoOtherKey, StaySound}
use Rattle.scx_maps.proofs.SlotOf.{slot_of-holds}
use Rattle.scx_maps.proofs.Sound.{taken_holds_none}
use Rattle.scx_maps.proofs.Served.{updated_kind, deleted_kind}
use Rattle.scx_maps.proofs.WherePlaced.{directory_placed, directory_stored, elements_written, count_written, count_stored}
use Rattle.scx_maps.proofs.InOrder.{number_of}
use Rattle.scx_maps.proofs.MapLaws.{added_found, added_others, deleted_absent, deleted_others, updated_keys, left_keys}

-- ---- slots of keys

array_within : (n k s : ℕ) → array_slot n k ≡ Some s → (k ≡ s) × (s < n)
array_within n k s e = go (nat_lt k n) refl e
  where
    go : (b : Bool) → nat_lt k n ≡ b → (if b then Some k else None) ≡ Some s → (k ≡ s) × (s < n)
    go true t f = let same = same_Some k s f in (same, omega (arith, same, ltb-true k n t))
    go false t f = absurd (none-some s f)

copy_within : (n c k s : ℕ) → copy_slot n c k ≡ Some s → (c * (n / copies) + k ≡ s) × (s < n)
copy_within n c k s e = go (nat_lt c copies && nat_lt k (n / copies)) refl e
  where
    go : (b : Bool) → (nat_lt c copies && nat_lt k (n / copies)) ≡ b → (if b then Some (c * (n / copies) + k) else None) ≡ Some s → (c * (n / copies) + k ≡ s) × (s < n)
    go true t f =
        let same = same_Some (c * (n / copies) + k) s f in
        let parts = and_parts (nat_lt c copies) (nat_lt k (n / copies)) t in
        let within = mul-add-lt c (n / copies) k copies (ltb-true c copies parts.0) (ltb-true k (n / copies) parts.1) in
        let whole = div-add-mod' n copies in
        (same, omega (arith, same, within, whole))
    go false t f = absurd (none-some s f)

-- two keys in one slot are one
seek_apart : (d : Directory) (n c j k r : ℕ) → seek d n c j ≡ Some r → seek d n c k ≡ Some r → j ≡ k
seek_apart Array n c j k r e f = (array_within n j r e).0 ∙ sym (array_within n k r f).0
seek_apart PerCpu n c j k r e f = omega (arith, (copy_within n c j r e).0, (copy_within n c k r f).0)
seek_apart (Hash z ks) n c j k r e f = same_Some j k (same_Some (Some j) (Some k) (sym (slot_of-holds ks.held j r e) ∙ slot_of-holds ks.held k r f))
seek_apart (Queue l) n c j k r e f = absurd (none-some r e)
seek_apart (Stack l) n c j k r e f = absurd (none-some r e)

-- ---- updates

-- the slot that was found, or 0
abbrev slot_found : Result ℕ ℕ → ℕ
slot_found (Ok s) = s
slot_found (Err e) = 0

-- a slot was found for a value, and its key is found there
pub record Seeks (n c k : ℕ) (p : Placed) : Type 0 where
  pub slot : ℕ
  pub is : p.slot ≡ Ok slot
  pub found : seek p.directory n c k ≡ Some slot
  pub within : slot < n

array_seeks : (d : Directory) (n c k f : ℕ) (o : Option ℕ) → seek d n c k ≡ o → ((s : ℕ) → o ≡ Some s → s < n) → code_of (array_updated o f) ≡ 0 → Seeks n c k (stays d (array_updated o f))
array_seeks d n c k f None t within e = absurd (omega (arith, e))
array_seeks d n c k f (Some s) t within e = go (nat_eq f 1) e
  where
    go : (b : Bool) → code_of (if b then Err is_there else Ok s) ≡ 0 → Seeks n c k (stays d (if b then Err is_there else Ok s))
    go true e = absurd (omega (arith, e))
    go false e = record { slot = s; is = refl; found = t; within = within s refl }

hash_seeks : (z : KeySize) (ks : Keys) (n c k f : ℕ) → AreKeys n ks → code_of (key_updated (Hash z) ks k f (slot_of ks.held k)).slot ≡ 0 → Seeks n c k (key_updated (Hash z) ks k f (slot_of ks.held k))
hash_seeks z ks n c k f keys e = go (slot_of ks.held k) refl e
  where
    old : (s : ℕ) → slot_of ks.held k ≡ Some s → (b : Bool) → code_of (if b then Err is_there else Ok s) ≡ 0 → Seeks n c k (stays (Hash z ks) (if b then Err is_there else Ok s))
    old s t true e = absurd (omega (arith, e))
    old s t false e =
        record { slot = s; is = refl; found = t; within = omega (arith, keys.long, slice_get_within ks.held s (Some k) (slot_of-holds ks.held k s t)) }

    added : slot_of ks.held k ≡ None → (o : Option ℕ) → free_slot ks ≡ o → code_of (key_added (Hash z) ks k o).slot ≡ 0 → Seeks n c k (key_added (Hash z) ks k o)
    added t None u e = absurd (omega (arith, e))
    added t (Some s) u e = record {
      slot = s;
      is = refl;
      found = added_found n ks s k keys u t;
      within = omega (arith, keys.long, slice_get_within ks.held s None (taken_holds_none ks.held ks.freed ks.used s keys.sound u));
    }

    new : slot_of ks.held k ≡ None → (b : Bool) → code_of (if b then stays (Hash z ks) (Err not_there) else key_added (Hash z) ks k (free_slot ks)).slot ≡ 0
        → Seeks n c k (if b then stays (Hash z ks) (Err not_there) else key_added (Hash z) ks k (free_slot ks))
    new t true e = absurd (omega (arith, e))
    new t false e = added t (free_slot ks) refl e

    go : (o : Option ℕ) → slot_of ks.held k ≡ o → code_of (key_updated (Hash z) ks k f o).slot ≡ 0 → Seeks n c k (key_updated (Hash z) ks k f o)
    go (Some s) t e = old s t (nat_eq f 1) e
    go None t e = new t (nat_eq f 2) e

updated_in_seeks : (d : Directory) (n c k f : ℕ) → IsSoundFor n d → code_of (updated_in d n c k f).slot ≡ 0 → Seeks n c k (updated_in d n c k f)
updated_in_seeks Array n c k f sound e = array_seeks Array n c k f (array_slot n k) refl (λ s t. (array_within n k s t).1) e
updated_in_seeks PerCpu n c k f sound e = array_seeks PerCpu n c k f (copy_slot n c k) refl (λ s t. (copy_within n c k s t).1) e
updated_in_seeks (Hash z ks) n c k f sound e = hash_seeks z ks n c k f sound e
updated_in_seeks (Queue l) n c k f sound e = absurd (omega (arith, e))
updated_in_seeks (Stack l) n c k f sound e = absurd (omega (arith, e))

-- an update that is done puts its value into the slot in which its key is found
updated_seeks : (d : Directory) (n c k f : ℕ) → IsSoundFor n d → code_of (updated d n c k f).slot ≡ 0 → Seeks n c k (updated d n c k f)
updated_seeks d n c k f sound e = go (nat_lt 2 f) e
  where
    go : (b : Bool) → code_of (if b then stays d (Err invalid) else updated_in d n c k f).slot ≡ 0 → Seeks n c k (if b then stays d (Err invalid) else updated_in d n c k f)
    go true e = absurd (omega (arith, e))
    go false e = updated_in_seeks d n c k f sound e

hash_others : (z : KeySize) (ks : Keys) (n c k j f : ℕ) → AreKeys n ks → j ≢ k → (o : Option ℕ) → seek (key_updated (Hash z) ks k f o).directory n c j ≡ slot_of ks.held j
hash_others z ks n c k j f keys ne (Some s) = refl
hash_others z ks n c k j f keys ne None = new (nat_eq f 2)
  where
    added : (o : Option ℕ) → free_slot ks ≡ o → seek (key_added (Hash z) ks k o).directory n c j ≡ slot_of ks.held j
    added None u = refl
    added (Some s) u = added_others n ks s k j keys u ne

    new : (b : Bool) → seek (if b then stays (Hash z ks) (Err not_there) else key_added (Hash z) ks k (free_slot ks)).directory n c j ≡ slot_of ks.held j
    new true = refl
    new false = added (free_slot ks) refl

updated_in_others : (d : Directory) (n c k j f : ℕ) → IsSoundFor n d → j ≢ k → seek (updated_in d n c k f).directory n c j ≡ seek d n c j
updated_in_others (Hash z ks) n c k j f sound ne = hash_others z ks n c k j f sound ne (slot_of ks.held k)
updated_in_others Array n c k j f sound ne = refl
updated_in_others PerCpu n c k j f sound ne = refl
updated_in_others (Queue l) n c k j f sound ne = refl
updated_in_others (Stack l) n c k j f sound ne = refl

-- other keys are where they were
updated_others : (d : Directory) (n c k j f : ℕ) → IsSoundFor n d → j ≢ k → seek (updated d n c k f).directory n c j ≡ seek d n c j
updated_others d n c k j f sound ne = go (nat_lt 2 f)
  where
    go : (b : Bool) → seek (if b then stays d (Err invalid) else updated_in d n c k f).directory n c j ≡ seek d n c j
    go true = refl
    go false = updated_in_others d n c k j f sound ne

updated_in_sound : (d : Directory) (n c k f : ℕ) → IsSoundFor n d → IsSoundFor n (updated_in d n c k f).directory
updated_in_sound (Hash z ks) n c k f sound = updated_keys z n ks k f sound
updated_in_sound Array n c k f sound = sound
updated_in_sound PerCpu n c k f sound = sound
updated_in_sound (Queue l) n c k f sound = sound
updated_in_sound (Stack l) n c k f sound = sound

updated_sound : (d : Directory) (n c k f : ℕ) → IsSoundFor n d → IsSoundFor n (updated d n c k f).directory
updated_sound d n c k f sound = go (nat_lt 2 f)
  where
    go : (b : Bool) → IsSoundFor n (if b then stays d (Err invalid) else updated_in d n c k f).directory
    go true = sound
    go false = updated_in_sound d n c k f sound

-- ---- deletions

deleted_none : (d : Directory) (n c k : ℕ) → IsSoundFor n d → code_of (deleted d k).slot ≡ 0 → seek (deleted d k).directory n c k ≡ None
deleted_none (Hash z ks) n c k sound e = go (slot_of ks.held k) refl e
  where
    go : (o : Option ℕ) → slot_of ks.held k ≡ o → code_of (key_deleted (Hash z) ks o).slot ≡ 0 → seek (key_deleted (Hash z) ks o).directory n c k ≡ None
    go None t e = absurd (omega (arith, e))
    go (Some s) t e = deleted_absent n ks s k sound t
deleted_none Array n c k sound e = absurd (omega (arith, e))
deleted_none PerCpu n c k sound e = absurd (omega (arith, e))
deleted_none (Queue l) n c k sound e = absurd (omega (arith, e))
deleted_none (Stack l) n c k sound e = absurd (omega (arith, e))

deleted_leaves : (d : Directory) (n c k j : ℕ) → IsSoundFor n d → j ≢ k → seek (deleted d k).directory n c j ≡ seek d n c j
deleted_leaves (Hash z ks) n c k j sound ne = go (slot_of ks.held k) refl
  where
    go : (o : Option ℕ) → slot_of ks.held k ≡ o → seek (key_deleted (Hash z) ks o).directory n c j ≡ slot_of ks.held j
    go None t = refl
    go (Some s) t = deleted_others ks s k j t ne
deleted_leaves Array n c k j sound ne = refl
deleted_leaves PerCpu n c k j sound ne = refl
deleted_leaves (Queue l) n c k j sound ne = refl
deleted_leaves (Stack l) n c k j sound ne = refl

deleted_sound_for : (d : Directory) (n k : ℕ) → IsSoundFor n d → IsSoundFor n (deleted d k).directory
deleted_sound_for (Hash z ks) n k sound = left_keys z n ks k sound
deleted_sound_for Array n k sound = sound
deleted_sound_for PerCpu n k sound = sound
deleted_sound_for (Queue l) n k sound = sound
deleted_sound_for (Stack l) n k sound = sound

-- ---- whole maps

-- the value in the slot of a key
value_in_slot : (maps : Maps) (m c k s : ℕ) (bytes : List ℕ) → seek (directory maps m) (slot_count maps m) c k ≡ Some s → s < slot_count maps m → value_at (with_element maps m s bytes) m c k ≡ Some bytes
value_in_slot maps m c k s bytes found within =
    let count = count_written maps m s bytes in
    let there = ap (λ n. seek (directory maps m) n c k) count ∙ found in
    let value = ap (λ (es : List (List ℕ)). get_or es s []) (elements_written maps m s bytes) ∙ get_or-set_same (elements maps m) s bytes [] within in
    ap (option_map (λ r. element (with_element maps m s bytes) m r)) there ∙ ap (λ (v : List ℕ). Some v) value

-- values in other slots stay
value_in_other : (maps : Maps) (m c k s : ℕ) (bytes : List ℕ) → ((r : ℕ) → seek (directory maps m) (slot_count maps m) c k ≡ Some r → r ≢ s) → value_at (with_element maps m s bytes) m c k ≡ value_at maps m c k
value_in_other maps m c k s bytes other =
    ap (λ n. option_map (λ r. element (with_element maps m s bytes) m r) (seek (directory maps m) n c k)) (count_written maps m s bytes)
    ∙ go (seek (directory maps m) (slot_count maps m) c k) refl
  where
    go : (o : Option ℕ) → seek (directory maps m) (slot_count maps m) c k ≡ o → option_map (λ r. element (with_element maps m s bytes) m r) o ≡ option_map (λ r. element maps m r) o
    go None e = refl
    go (Some r) e =
        let value = ap (λ (es : List (List ℕ)). get_or es r []) (elements_written maps m s bytes) ∙ get_or-set_other (elements maps m) s r bytes [] (other r e) in
        ap (λ (v : List ℕ). Some v) value

-- a key that is where it was has the value that it had
value_placed : (maps : Maps) (m c k : ℕ) (d : Directory) → kind_of d ≡ kind_of (directory maps m) → seek d (slot_count maps m) c k ≡ seek (directory maps m) (slot_count maps m) c k
    → value_at (with_directory maps m d) m c k ≡ value_at maps m c k
value_placed maps m c k d e same =
    ap (option_map (λ r. element maps m r)) (ap (λ (x : Directory). seek x (slot_count maps m) c k) (directory_placed maps m d e) ∙ same)

-- an update that is done puts its value under the key
pub writes_the_key : WritesTheKey
writes_the_key maps m c k bytes f sound done =
    let d : Directory = directory maps m in
    let n : ℕ = slot_count maps m in
    let p : Placed = updated d n c k f in
    let base : Maps = with_directory maps m p.directory in
    let seeks = updated_seeks d n c k f sound (ap number_of done) in
    let there = ap (λ (x : Directory). seek x n c k) (directory_placed maps m p.directory (updated_kind d n c k f)) ∙ seeks.found in
    ap (λ (r : Result ℕ ℕ). value_at (stored_in base m r bytes) m c k) seeks.is ∙ value_in_slot base m c k seeks.slot bytes there seeks.within

-- what is under other keys stays
pub writes_no_other_key : WritesNoOtherKey
writes_no_other_key maps m c k j bytes f sound ne = go (updated d n c k f).slot refl
  where
    d : Directory
    d = directory maps m

    n : ℕ
    n = slot_count maps m

    base : Maps
    base = with_directory maps m (updated d n c k f).directory

    placed : directory base m ≡ (updated d n c k f).directory
    placed = directory_placed maps m (updated d n c k f).directory (updated_kind d n c k f)

    stays_there : value_at base m c j ≡ value_at maps m c j
    stays_there = value_placed maps m c j (updated d n c k f).directory (updated_kind d n c k f) (updated_others d n c k j f sound ne)

    go : (r : Result ℕ ℕ) → (updated d n c k f).slot ≡ r → value_at (stored_in base m r bytes) m c j ≡ value_at maps m c j
    go (Err e) is = stays_there
    go (Ok s) is =
        let seeks = updated_seeks d n c k f sound (ap code_of is) in
        let same : seeks.slot ≡ s = ap slot_found (sym seeks.is ∙ is) in
        let found : seek (updated d n c k f).directory n c k ≡ Some s = seeks.found ∙ ap (λ (i : ℕ). Some i) same in
        value_in_other base m c j s bytes
        (λ r e t. ne (seek_apart (updated d n c k f).directory n c j k s (sym (ap (λ (x : Directory). seek x n c j) placed) ∙ e ∙ ap (λ (i : ℕ). Some i) t) found))
        ∙ stays_there

-- a key that was taken out isn't there
pub takes_the_key : TakesTheKey
takes_the_key maps m c k sound done =
    let d : Directory = directory maps m in
    let n : ℕ = slot_count maps m in
    ap (option_map (λ r. element maps m r))
    (ap (λ (x : Directory). seek x n c k) (directory_placed maps m (deleted d k).directory (deleted_kind d k)) ∙ deleted_none d n c k sound (ap number_of done))

-- what is under other keys stays
pub takes_no_other_key : TakesNoOtherKey
takes_no_other_key maps m c k j sound ne =
    value_placed maps m c j (deleted (directory maps m) k).directory (deleted_kind (directory maps m) k) (deleted_leaves (directory maps m) (slot_count maps m) c k j sound ne)

-- keys stay sound
pub stay_sound : StaySound
stay_sound maps m c k bytes f sound =
    let d : Directory = directory maps m in
    let n : ℕ = slot_count maps m in
    let p : Placed = updated d n c k f in
    let base : Maps = with_directory maps m p.directory in
    let part = directory_stored base m p.slot bytes ∙ directory_placed maps m p.directory (updated_kind d n c k f) in
    let count = count_stored base m p.slot bytes in
    let updated_part : IsSoundFor n (directory (stored_in base m p.slot bytes) m) = subst (λ (x : Directory). IsSoundFor n x) (sym part) (updated_sound d n c k f sound) in (
      subst (λ (i : ℕ). IsSoundFor i (directory (stored_in base m p.slot bytes) m)) (sym count) updated_part,
      subst (λ (x : Directory). IsSoundFor n x) (sym (directory_placed maps m (deleted d k).directory (deleted_kind d k))) (deleted_sound_for d n k sound),
    )
