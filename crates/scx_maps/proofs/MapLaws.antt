-- Under a key is what was written there last: the keys of a hash.
use Rattle.std.proofs.Common.{◌≡◌, ◌≢◌, ℕ, Bool, true, false, nat_eq, Option, Some, None, Err, if◌then◌else◌, refl, sym, ap, ◌∙◌, length-set}
use Rattle.std.proofs.lemmas.Option.{same_Some, slice_get_within}
use Rattle.scx_isa_semantics.specs.declared.map_kinds.KeySize.{KeySize}
use Rattle.scx_isa_semantics.specs.Directories.{Keys, Hash, holds_key, slot_of, free_slot, with_key, without_key, key_added, key_updated, key_deleted, not_there}
use Rattle.scx_maps.specs.Laws.{AreKeys, IsSoundFor}
use Rattle.scx_maps.proofs.SlotOf.{slot_of-holds}
use Rattle.scx_maps.proofs.Sound.{deleted_sound, taken_sound, taken_holds_none}
use Rattle.scx_maps.proofs.Found.{put_is_found, others_are_found, other_holds, taken_is_absent, put_apart, taken_apart}

-- ---- a new key

-- keys with a new one are keys
added_keys : (n : ℕ) (ks : Keys) (s k : ℕ) → AreKeys n ks → free_slot ks ≡ Some s → slot_of ks.held k ≡ None → AreKeys n (with_key ks s k)
added_keys n ks s k keys free absent =
    let none = taken_holds_none ks.held ks.freed ks.used s keys.sound free in
    record {
      long = length-set ks.held s (Some k) ∙ keys.long;
      apart = put_apart ks.held k s keys.apart absent (slice_get_within ks.held s None none);
      sound = taken_sound ks.held ks.freed ks.used s k keys.sound free;
    }

-- the key is in the slot that the update found
pub added_found : (n : ℕ) (ks : Keys) (s k : ℕ) → AreKeys n ks → free_slot ks ≡ Some s → slot_of ks.held k ≡ None → slot_of (with_key ks s k).held k ≡ Some s
added_found n ks s k keys free absent = put_is_found ks.held k s absent (slice_get_within ks.held s None (taken_holds_none ks.held ks.freed ks.used s keys.sound free))

-- other keys are where they were
pub added_others : (n : ℕ) (ks : Keys) (s k j : ℕ) → AreKeys n ks → free_slot ks ≡ Some s → j ≢ k → slot_of (with_key ks s k).held j ≡ slot_of ks.held j
added_others n ks s k j keys free ne =
    others_are_found ks.held j s (Some k) (other_holds k j ne)
    (λ x e. ap (holds_key j) (same_Some x None (sym e ∙ taken_holds_none ks.held ks.freed ks.used s keys.sound free)))

-- ---- a key that goes

-- keys without one are keys
deleted_keys : (n : ℕ) (ks : Keys) (s k : ℕ) → AreKeys n ks → slot_of ks.held k ≡ Some s → AreKeys n (without_key ks s)
deleted_keys n ks s k keys e =
    let there = slot_of-holds ks.held k s e in
    record {
      long = length-set ks.held s None ∙ keys.long;
      apart = taken_apart ks.held k s keys.apart there;
      sound = deleted_sound ks.held ks.freed ks.used s k keys.sound there;
    }

-- the key is in no slot
pub deleted_absent : (n : ℕ) (ks : Keys) (s k : ℕ) → AreKeys n ks → slot_of ks.held k ≡ Some s → slot_of (without_key ks s).held k ≡ None
deleted_absent n ks s k keys e = taken_is_absent ks.held k s keys.apart e

-- other keys are where they were
pub deleted_others : (ks : Keys) (s k j : ℕ) → slot_of ks.held k ≡ Some s → j ≢ k → slot_of (without_key ks s).held j ≡ slot_of ks.held j
deleted_others ks s k j e ne =
    others_are_found ks.held j s None refl
    (λ x f. ap (holds_key j) (same_Some x (Some k) (sym f ∙ slot_of-holds ks.held k s e)) ∙ other_holds k j ne)

-- ---- updates and deletions

-- an update leaves keys
pub updated_keys : (z : KeySize) (n : ℕ) (ks : Keys) (k f : ℕ) → AreKeys n ks → IsSoundFor n (key_updated (Hash z) ks k f (slot_of ks.held k)).directory
updated_keys z n ks k f keys = go (slot_of ks.held k) refl
  where
    added : slot_of ks.held k ≡ None → (o : Option ℕ) → free_slot ks ≡ o → IsSoundFor n (key_added (Hash z) ks k o).directory
    added e None t = keys
    added e (Some s) t = added_keys n ks s k keys t e

    tested : slot_of ks.held k ≡ None → (b : Bool) → IsSoundFor n (if b then record { directory = Hash z ks; slot = Err not_there } else key_added (Hash z) ks k (free_slot ks)).directory
    tested e true = keys
    tested e false = added e (free_slot ks) refl

    go : (o : Option ℕ) → slot_of ks.held k ≡ o → IsSoundFor n (key_updated (Hash z) ks k f o).directory
    go (Some s) e = keys
    go None e = tested e (nat_eq f 2)

-- so does a deletion
pub left_keys : (z : KeySize) (n : ℕ) (ks : Keys) (k : ℕ) → AreKeys n ks → IsSoundFor n (key_deleted (Hash z) ks (slot_of ks.held k)).directory
left_keys z n ks k keys = go (slot_of ks.held k) refl
  where
    go : (o : Option ℕ) → slot_of ks.held k ≡ o → IsSoundFor n (key_deleted (Hash z) ks o).directory
    go None e = keys
    go (Some s) e = deleted_keys n ks s k keys e
