-- Who is first, last and next in a FIFO queue: each is one task that there is, and the same in entries
-- that differ only elsewhere. So are the links.
use Rattle.std.proofs.Common.{◌≡◌, ◌≢◌, ℕ, ◌≤ℤ◌, List, length, count_by, Option, Some, None, MatchOption, sym, ap, ◌∙◌, arith, ◌⊎◌, inl, inr}
use Rattle.std.proofs.lemmas.Bool.{cases_eq}
use Rattle.std.proofs.lemmas.Int.{ints}
use Rattle.scx_dsq.specs.declared.entries.Entry.{Entry}
use Rattle.scx_dsq.specs.declared.links.Link.{Link}
use Rattle.scx_dsq.specs.declared.links.Ends.{Ends}
use Rattle.scx_dsq.specs.Entries.{turn}
use Rattle.scx_dsq.specs.Queues.{Entries, entry_at, is_in}
use Rattle.scx_dsq.specs.Links.{link_at, In, NobodyIsIn, HasFirstTurn, IsLast, IsNext, IsThreaded}
use Rattle.scx_dsq.proofs.Orders.{one_turn}
use Rattle.scx_dsq.proofs.Standing.{waits_below, same_entry}
use Rattle.scx_dsq.proofs.LinkReads.{IsWithin}

-- each entry has its own stamp
abbrev pub AreDistinct : Entries → Type 0
AreDistinct entries = (t u : ℕ) (p q : Entry) → t ≢ u → entry_at entries t ≡ Some p → entry_at entries u ≡ Some q → p.stamp ≢ q.stamp

-- a task has one turn
pub one_turn_of : (entries : Entries) (id u : ℕ) (p q : Entry) → In entries id u p → In entries id u q → turn p ≡ turn q
one_turn_of entries id u p q v w = ap turn (same_entry entries u p q v.0 w.0)

-- tasks of different stamps have different turns
pub two_turns : (p q : Entry) → p.stamp ≢ q.stamp → turn p ≢ turn q
two_turns p q n e = n (one_turn p.rank q.rank p.stamp q.stamp e)

-- it is that one, or it is not
pub is_some_of : (o : Option ℕ) (u : ℕ) → (o ≡ Some u) ⊎ (o ≢ Some u)
is_some_of None u = inr (λ e. absurd (cc))
is_some_of (Some t) u = go (cases_eq t u)
  where
    go : (t ≡ u) ⊎ (t ≡ u → ⊥) → (Some t ≡ Some u) ⊎ (Some t ≢ Some u)
    go (inl e) = inl (ap Some e)
    go (inr n) = inr (λ e. n (cc))

-- ---- who is linked is one of the tasks

-- who is last is
pub last_within : (entries : Entries) (id : ℕ) (o : Option ℕ) → MatchOption o (NobodyIsIn entries id) (IsLast entries id) → IsWithin (length entries) o
last_within entries id None h = tt
last_within entries id (Some t) h = waits_below entries t h.entry h.waits.0

-- who is first is
pub first_within : (entries : Entries) (id : ℕ) (o : Option ℕ) → MatchOption o (NobodyIsIn entries id) (HasFirstTurn entries id) → IsWithin (length entries) o
first_within entries id None h = tt
first_within entries id (Some t) h = waits_below entries t h.entry h.waits.0

-- who is ahead is
pub ahead_within : (entries : Entries) (id t : ℕ) (o : Option ℕ) → MatchOption o (HasFirstTurn entries id t) (λ u. IsNext entries id u t) → IsWithin (length entries) o
ahead_within entries id t None h = tt
ahead_within entries id t (Some u) h = waits_below entries u h.entry h.waits.0

-- who is behind is
pub behind_within : (entries : Entries) (id t : ℕ) (o : Option ℕ) → MatchOption o (IsLast entries id t) (IsNext entries id t) → IsWithin (length entries) o
behind_within entries id t None h = tt
behind_within entries id t (Some u) h = waits_below entries u h.entry_behind h.waits_behind.0

-- ---- two tasks in one role are one

module _ (entries : Entries) (id : ℕ) (distinct : AreDistinct entries) where
  same_from_turns : (t u : ℕ) (p q : Entry) → In entries id t p → In entries id u q → turn p ≡ turn q → t ≡ u
  same_from_turns t u p q v w e = go (cases_eq t u)
    where
      go : (t ≡ u) ⊎ (t ≡ u → ⊥) → t ≡ u
      go (inl same) = same
      go (inr n) = absurd (two_turns p q (distinct t u p q n v.0 w.0) e)

  -- only one is last
  pub one_last : (t u : ℕ) → IsLast entries id t → IsLast entries id u → t ≡ u
  one_last t u h k =
      let a = h.last u k.entry k.waits in
      let b = k.last t h.entry h.waits in
      same_from_turns t u h.entry k.entry h.waits k.waits (omega (arith, ints))

  -- only one is first
  pub one_first : (t u : ℕ) → HasFirstTurn entries id t → HasFirstTurn entries id u → t ≡ u
  one_first t u h k =
      let a = h.first u k.entry k.waits in
      let b = k.first t h.entry h.waits in
      same_from_turns t u h.entry k.entry h.waits k.waits (omega (arith, ints))

  -- only one is right ahead of a task
  pub one_ahead : (t u v : ℕ) → IsNext entries id t v → IsNext entries id u v → t ≡ u
  one_ahead t u v h k = same_from_turns t u h.entry k.entry h.waits k.waits (go (h.none_between u k.entry k.waits) (k.none_between t h.entry h.waits))
    where
      same : turn h.entry_behind ≡ turn k.entry_behind
      same = one_turn_of entries id v h.entry_behind k.entry_behind h.waits_behind k.waits_behind

      go : (turn k.entry ≤ℤ turn h.entry) ⊎ (turn h.entry_behind ≤ℤ turn k.entry) → (turn h.entry ≤ℤ turn k.entry) ⊎ (turn k.entry_behind ≤ℤ turn h.entry) → turn h.entry ≡ turn k.entry
      go (inl a) (inl b) = omega (arith, ints)
      go (inl a) (inr b) = let x = h.before in absurd (omega (arith, ints, x, b, same))
      go (inr a) b = let x = k.before in absurd (omega (arith, ints, x, a, same))

  -- only one is right behind a task
  pub one_behind : (t u v : ℕ) → IsNext entries id v t → IsNext entries id v u → t ≡ u
  one_behind t u v h k = same_from_turns t u h.entry_behind k.entry_behind h.waits_behind k.waits_behind (go (h.none_between u k.entry_behind k.waits_behind) (k.none_between t h.entry_behind h.waits_behind))
    where
      same : turn h.entry ≡ turn k.entry
      same = one_turn_of entries id v h.entry k.entry h.waits k.waits

      go : (turn k.entry_behind ≤ℤ turn h.entry) ⊎ (turn h.entry_behind ≤ℤ turn k.entry_behind) → (turn h.entry_behind ≤ℤ turn k.entry) ⊎ (turn k.entry_behind ≤ℤ turn h.entry_behind)
          → turn h.entry_behind ≡ turn k.entry_behind
      go (inr a) (inr b) = omega (arith, ints)
      go (inr a) (inl b) = let x = h.before in absurd (omega (arith, ints, x, b, same))
      go (inl a) b = let x = k.before in absurd (omega (arith, ints, x, a, same))

-- ---- another queue changes

module _ (entries new : Entries) (id : ℕ) (to : (u : ℕ) (q : Entry) → In entries id u q → In new id u q) (from : (u : ℕ) (q : Entry) → In new id u q → In entries id u q) where
  first_same : (f : ℕ) → HasFirstTurn entries id f → HasFirstTurn new id f
  first_same f h = record { entry = h.entry; waits = to f h.entry h.waits; first = λ u q w. h.first u q (from u q w) }

  last_same : (l : ℕ) → IsLast entries id l → IsLast new id l
  last_same l h = record { entry = h.entry; waits = to l h.entry h.waits; last = λ u q w. h.last u q (from u q w) }

  next_same : (a b : ℕ) → IsNext entries id a b → IsNext new id a b
  next_same a b h = record {
    entry = h.entry;
    entry_behind = h.entry_behind;
    waits = to a h.entry h.waits;
    waits_behind = to b h.entry_behind h.waits_behind;
    before = h.before;
    none_between = λ u q w. h.none_between u q (from u q w);
  }

  each : (o : Option ℕ) (P Q : Type 0) (R S : ℕ → Type 0) → (P → Q) → ((u : ℕ) → R u → S u) → MatchOption o P R → MatchOption o Q S
  each None P Q R S f g h = f h
  each (Some u) P Q R S f g h = g u h

  -- the links still lead through the queue
  pub threaded_same : (links others : List Link) (ends : Ends) → ((u : ℕ) (q : Entry) → In entries id u q → link_at others u ≡ link_at links u) → count_by (is_in id) new ≡ count_by (is_in id) entries
      → IsThreaded entries links id ends → IsThreaded new others id ends
  threaded_same links others ends agree count h = record {
    first = each ends.first _ _ _ _ (λ nobody u q w. nobody u q (from u q w)) first_same h.first;
    last = each ends.last _ _ _ _ (λ nobody u q w. nobody u q (from u q w)) last_same h.last;
    ahead = λ u q w. rw (agree u q (from u q w)) (each (link_at links u).ahead _ _ _ _ (first_same u) (λ v. next_same v u) (h.ahead u q (from u q w)));
    next = λ u q w. rw (agree u q (from u q w)) (each (link_at links u).next _ _ _ _ (last_same u) (next_same u) (h.next u q (from u q w)));
    count = h.count ∙ sym count;
    sort = λ u q w. h.sort u q (from u q w);
  }
