-- The links of a FIFO queue lead through those who wait there after one was taken out.
use Rattle.std.proofs.Common.{◌≡◌, ◌≢◌, ℕ, ◌+◌, ◌≤ℤ◌, List, length, set, count_by, Option, Some, None, MatchOption, refl, sym, ap, subst, arith, ◌⊎◌, inl, inr}
use Rattle.std.proofs.lemmas.Int.{ints}
use Rattle.scx_dsq.specs.declared.entries.Entry.{Entry}
use Rattle.scx_dsq.specs.declared.links.Link.{Link}
use Rattle.scx_dsq.specs.declared.links.Ends.{Ends}
use Rattle.scx_dsq.specs.Entries.{turn}
use Rattle.scx_dsq.specs.Queues.{Entries, entry_at, is_in}
use Rattle.scx_dsq.specs.Links.{link_at, instead, links_unlinked, ends_unlinked, In, NobodyIsIn, HasFirstTurn, IsLast, IsNext, IsThreaded}
use Rattle.scx_dsq.proofs.Standing.{Changed, this, other, changed, unchanged, waits_below, is_in_from, count-set}
use Rattle.scx_dsq.proofs.LinkReads.{IsWithin, unlinked_ahead, unlinked_behind, unlinked_ahead-other, unlinked_behind-other}
use Rattle.scx_dsq.proofs.Threads.{AreDistinct, one_turn_of, two_turns, is_some_of, ahead_within, behind_within, one_ahead, one_behind}

module _ (entries : Entries) (id t : ℕ) (p : Entry) (here : In entries id t p) (distinct : AreDistinct entries) where
  abbrev after : Entries
  after = set entries t None

  still : (u : ℕ) (q : Entry) → u ≢ t → In entries id u q → In after id u q
  still u q n w = (unchanged entries t None u q n w.0, w.1)

  was : (u : ℕ) (q : Entry) → Changed entries t None u q → (u ≢ t) × (entry_at entries u ≡ Some q)
  was u q (this e n) = absurd (cc)
  was u q (other n e) = (n, e)

  before : (u : ℕ) (q : Entry) → In after id u q → (u ≢ t) × In entries id u q
  before u q w = let old = was u q (changed entries t None u q w.0) in (old.0, (old.1, w.1))

  own_turn : (q : Entry) → In entries id t q → turn q ≡ turn p
  own_turn q w = one_turn_of entries id t q p w here

  other_turn : (u : ℕ) (q : Entry) → In entries id u q → u ≢ t → turn q ≢ turn p
  other_turn u q w n = two_turns q p (distinct u t q p n w.0 here.0)

  another : (u : ℕ) (q : Entry) → In entries id u q → turn q ≢ turn p → u ≢ t
  another u q w n e = n (one_turn_of entries id t q p (subst (λ v. In entries id v q) e w) here)

  nobody_left : HasFirstTurn entries id t → IsLast entries id t → NobodyIsIn after id
  nobody_left f l u q w =
      let old = before u q w in
      let low = f.first u q old.1 in
      let high = l.last u q old.1 in
      let first = own_turn f.entry f.waits in
      let last = own_turn l.entry l.waits in
      other_turn u q old.1 old.0 (omega (arith, ints))

  first_next : (b : ℕ) → HasFirstTurn entries id t → IsNext entries id t b → HasFirstTurn after id b
  first_next b f h = record {
    entry = h.entry_behind;
    waits = still b h.entry_behind (another b h.entry_behind h.waits_behind (λ e. absurd (let x = h.before in omega (arith, ints, e, x, own_turn h.entry h.waits)))) h.waits_behind;
    first = λ u q w. let old = before u q w in go u q old.0 old.1 (h.none_between u q old.1);
  }
    where
      go : (u : ℕ) (q : Entry) → u ≢ t → In entries id u q → (turn q ≤ℤ turn h.entry) ⊎ (turn h.entry_behind ≤ℤ turn q) → turn h.entry_behind ≤ℤ turn q
      go u q n w (inl le) = absurd (other_turn u q w n (let a = f.first u q w in omega (arith, ints, a, le, own_turn f.entry f.waits, own_turn h.entry h.waits)))
      go u q n w (inr le) = le

  last_next : (a : ℕ) → IsLast entries id t → IsNext entries id a t → IsLast after id a
  last_next a l h = record {
    entry = h.entry;
    waits = still a h.entry (another a h.entry h.waits (λ e. absurd (let x = h.before in omega (arith, ints, e, x, own_turn h.entry_behind h.waits_behind)))) h.waits;
    last = λ u q w. let old = before u q w in go u q old.0 old.1 (h.none_between u q old.1);
  }
    where
      go : (u : ℕ) (q : Entry) → u ≢ t → In entries id u q → (turn q ≤ℤ turn h.entry) ⊎ (turn h.entry_behind ≤ℤ turn q) → turn q ≤ℤ turn h.entry
      go u q n w (inl le) = le
      go u q n w (inr le) = absurd (other_turn u q w n (let b = l.last u q w in omega (arith, ints, b, le, own_turn l.entry l.waits, own_turn h.entry_behind h.waits_behind)))

  joined : (a b : ℕ) → IsNext entries id a t → IsNext entries id t b → IsNext after id a b
  joined a b h k = record {
    entry = h.entry;
    entry_behind = k.entry_behind;
    waits = still a h.entry (another a h.entry h.waits (λ e. absurd (let x = h.before in omega (arith, ints, e, x, own_turn h.entry_behind h.waits_behind)))) h.waits;
    waits_behind = still b k.entry_behind (another b k.entry_behind k.waits_behind (λ e. absurd (let x = k.before in omega (arith, ints, e, x, own_turn k.entry k.waits)))) k.waits_behind;
    before = let x = h.before in let y = k.before in omega (arith, ints, x, y, own_turn h.entry_behind h.waits_behind, own_turn k.entry k.waits);
    none_between = λ u q w. let old = before u q w in go u q old.0 old.1 (h.none_between u q old.1) (k.none_between u q old.1);
  }
    where
      go : (u : ℕ) (q : Entry) → u ≢ t → In entries id u q → (turn q ≤ℤ turn h.entry) ⊎ (turn h.entry_behind ≤ℤ turn q) → (turn q ≤ℤ turn k.entry) ⊎ (turn k.entry_behind ≤ℤ turn q)
          → (turn q ≤ℤ turn h.entry) ⊎ (turn k.entry_behind ≤ℤ turn q)
      go u q n w (inl le) e = inl le
      go u q n w (inr ge) (inr le) = inr le
      go u q n w (inr ge) (inl le) = absurd (other_turn u q w n (omega (arith, ints, ge, le, own_turn h.entry_behind h.waits_behind, own_turn k.entry k.waits)))

  first_stays : (f : ℕ) → f ≢ t → HasFirstTurn entries id f → HasFirstTurn after id f
  first_stays f n h = record { entry = h.entry; waits = still f h.entry n h.waits; first = λ u q w. h.first u q (before u q w).1 }

  last_stays : (l : ℕ) → l ≢ t → IsLast entries id l → IsLast after id l
  last_stays l n h = record { entry = h.entry; waits = still l h.entry n h.waits; last = λ u q w. h.last u q (before u q w).1 }

  next_stays : (a b : ℕ) → a ≢ t → b ≢ t → IsNext entries id a b → IsNext after id a b
  next_stays a b n m h = record {
    entry = h.entry;
    entry_behind = h.entry_behind;
    waits = still a h.entry n h.waits;
    waits_behind = still b h.entry_behind m h.waits_behind;
    before = h.before;
    none_between = λ u q w. h.none_between u q (before u q w).1;
  }

  -- who is ahead of it isn't behind all, nor is it the first of all
  not_first : (a f : ℕ) → IsNext entries id a t → HasFirstTurn entries id f → f ≢ t
  not_first a f h k e =
      let low = k.first a h.entry h.waits in
      let same = own_turn k.entry (subst (λ v. In entries id v k.entry) e k.waits) in
      let x = h.before in
      absurd (omega (arith, ints, low, same, x, own_turn h.entry_behind h.waits_behind))

  not_last : (b l : ℕ) → IsNext entries id t b → IsLast entries id l → l ≢ t
  not_last b l h k e =
      let high = k.last b h.entry_behind h.waits_behind in
      let same = own_turn k.entry (subst (λ v. In entries id v k.entry) e k.waits) in
      let x = h.before in
      absurd (omega (arith, ints, high, same, x, own_turn h.entry h.waits))

  module _ (links : List Link) (ends : Ends) (long : length links ≡ length entries) (h : IsThreaded entries links id ends) where
    abbrev a : Option ℕ
    a = (link_at links t).ahead

    abbrev b : Option ℕ
    b = (link_at links t).next

    abbrev AheadOf : ℕ → Option ℕ → Type 0
    AheadOf u o = MatchOption o (HasFirstTurn entries id u) (λ v. IsNext entries id v u)

    abbrev BehindOf : ℕ → Option ℕ → Type 0
    BehindOf u o = MatchOption o (IsLast entries id u) (IsNext entries id u)

    ahead_fits : AheadOf t a
    ahead_fits = h.ahead t p here

    behind_fits : BehindOf t b
    behind_fits = h.next t p here

    ahead_in : IsWithin (length links) a
    ahead_in = subst (λ n. IsWithin n a) (sym long) (ahead_within entries id t a ahead_fits)

    behind_in : IsWithin (length links) b
    behind_in = subst (λ n. IsWithin n b) (sym long) (behind_within entries id t b behind_fits)

    first_after : (x y f : Option ℕ) → AheadOf t x → BehindOf t y → MatchOption f (NobodyIsIn entries id) (HasFirstTurn entries id) → MatchOption (instead x y f) (NobodyIsIn after id) (HasFirstTurn after id)
    first_after None None f i j k = nobody_left i j
    first_after None (Some v) f i j k = first_next v i j
    first_after (Some u) y None i j k = absurd (k t p here)
    first_after (Some u) y (Some f) i j k = first_stays f (not_first u f i k) k

    last_after : (x y l : Option ℕ) → AheadOf t x → BehindOf t y → MatchOption l (NobodyIsIn entries id) (IsLast entries id) → MatchOption (instead y x l) (NobodyIsIn after id) (IsLast after id)
    last_after None None l i j k = nobody_left i j
    last_after (Some u) None l i j k = last_next u j i
    last_after x (Some v) None i j k = absurd (k t p here)
    last_after x (Some v) (Some l) i j k = last_stays l (not_last v l j k) k

    -- the one ahead of it is followed by the one behind it
    joins_behind : (u : ℕ) (y : Option ℕ) → IsNext entries id u t → BehindOf t y → MatchOption y (IsLast after id u) (IsNext after id u)
    joins_behind u None i j = last_next u j i
    joins_behind u (Some v) i j = joined u v i j

    joins_ahead : (u : ℕ) (x : Option ℕ) → IsNext entries id t u → AheadOf t x → MatchOption x (HasFirstTurn after id u) (λ v. IsNext after id v u)
    joins_ahead u None i j = first_next u j i
    joins_ahead u (Some v) i j = joined v u j i

    -- the others are followed as before
    behind_stays : (u : ℕ) (x o : Option ℕ) → u ≢ t → AheadOf t x → x ≢ Some u → BehindOf u o → MatchOption o (IsLast after id u) (IsNext after id u)
    behind_stays u x None n i m j = last_stays u n j
    behind_stays u x (Some v) n i m j = next_stays u v n (λ e. not_next x i m (subst (IsNext entries id u) e j)) j
      where
        not_next : (x : Option ℕ) → AheadOf t x → x ≢ Some u → IsNext entries id u t → ⊥
        not_next None i m j = not_first u t j i refl
        not_next (Some w) i m j = m (ap Some (one_ahead entries id distinct w u t i j))

    ahead_stays : (u : ℕ) (y o : Option ℕ) → u ≢ t → BehindOf t y → y ≢ Some u → AheadOf u o → MatchOption o (HasFirstTurn after id u) (λ v. IsNext after id v u)
    ahead_stays u y None n i m j = first_stays u n j
    ahead_stays u y (Some v) n i m j = next_stays v u (λ e. not_next y i m (subst (λ w. IsNext entries id w u) e j)) n j
      where
        not_next : (y : Option ℕ) → BehindOf t y → y ≢ Some u → IsNext entries id t u → ⊥
        not_next None i m j = not_last u t j i refl
        not_next (Some w) i m j = m (ap Some (one_behind entries id distinct w u t i j))

    behind_after : (u : ℕ) (q : Entry) → u ≢ t → In entries id u q → MatchOption (link_at (links_unlinked links t) u).next (IsLast after id u) (IsNext after id u)
    behind_after u q n w = go (is_some_of a u)
      where
        go : (a ≡ Some u) ⊎ (a ≢ Some u) → MatchOption (link_at (links_unlinked links t) u).next (IsLast after id u) (IsNext after id u)
        go (inl is) = rw (unlinked_behind links t ahead_in behind_in u is) (joins_behind u b (subst (AheadOf t) is ahead_fits) behind_fits)
        go (inr isnt) = rw (unlinked_behind-other links t ahead_in behind_in u isnt) (behind_stays u a (link_at links u).next n ahead_fits isnt (h.next u q w))

    ahead_after : (u : ℕ) (q : Entry) → u ≢ t → In entries id u q → MatchOption (link_at (links_unlinked links t) u).ahead (HasFirstTurn after id u) (λ v. IsNext after id v u)
    ahead_after u q n w = go (is_some_of b u)
      where
        go : (b ≡ Some u) ⊎ (b ≢ Some u) → MatchOption (link_at (links_unlinked links t) u).ahead (HasFirstTurn after id u) (λ v. IsNext after id v u)
        go (inl is) = rw (unlinked_ahead links t ahead_in behind_in u is) (joins_ahead u a (subst (BehindOf t) is behind_fits) ahead_fits)
        go (inr isnt) = rw (unlinked_ahead-other links t ahead_in behind_in u isnt) (ahead_stays u b (link_at links u).ahead n behind_fits isnt (h.ahead u q w))

    one_less : ends.count ≡ count_by (is_in id) after + 1
    one_less =
        let less : count_by (is_in id) after + 1 ≡ count_by (is_in id) entries + 0 = rw (here.0, is_in_from id p here.1) at (count-set entries id t None (waits_below entries t p here.0)) in
        let same = h.count in omega arith

    -- the links without the task lead through those who are left
    pub threaded_without : IsThreaded after (links_unlinked links t) id (ends_unlinked links ends t)
    threaded_without = record {
      first = first_after a b ends.first ahead_fits behind_fits h.first;
      last = last_after a b ends.last ahead_fits behind_fits h.last;
      ahead = λ u q w. let old = before u q w in ahead_after u q old.0 old.1;
      next = λ u q w. let old = before u q w in behind_after u q old.0 old.1;
      count = let less = one_less in omega arith;
      sort = λ u q w. h.sort u q (before u q w).1;
    }
