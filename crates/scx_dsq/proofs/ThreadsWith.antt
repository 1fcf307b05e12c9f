-- The links of a FIFO queue lead through those who wait there after one was put at its end or at its front.
use Rattle.std.proofs.Common.{◌≡◌, ◌≢◌, ℕ, ◌+◌, ◌<◌, ◌≤ℤ◌, ◌<ℤ◌, true, List, length, set, count_by, Option, Some, None, MatchOption, sym, ap, subst, arith, ◌⊎◌, inl, inr}
use Rattle.std.proofs.lemmas.List.{get_or-set_same}
use Rattle.std.proofs.lemmas.Int.{ints}
use Rattle.scx_dsq.specs.declared.entries.Rank.TheVariants.{Fifo}
use Rattle.scx_dsq.specs.declared.entries.Entry.{Entry}
use Rattle.scx_dsq.specs.declared.links.Link.{Link}
use Rattle.scx_dsq.specs.declared.links.Ends.{Ends}
use Rattle.scx_dsq.specs.Entries.{same_sort, turn}
use Rattle.scx_dsq.specs.Queues.{Entries, entry_at, is_in}
use Rattle.scx_dsq.specs.Links.{link_at, instead, links_appended, ends_appended, links_prepended, ends_prepended, In, NobodyIsIn, HasFirstTurn, IsLast, IsNext, IsThreaded}
use Rattle.scx_dsq.proofs.Standing.{Changed, this, other, changed, unchanged, is_in_from, count-set}
use Rattle.scx_dsq.proofs.LinkReads.{IsWithin, appended_others, appended_ahead, appended_behind, appended_ahead-other, appended_behind-last, prepended_others, prepended_ahead, prepended_behind, prepended_behind-other, prepended_ahead-first}
use Rattle.scx_dsq.proofs.Threads.{AreDistinct, is_some_of, last_within, first_within, one_last, one_first}

module _ (entries : Entries) (id t : ℕ) (new : Entry) (here : new.queue ≡ id) (free : entry_at entries t ≡ None) (within : t < length entries) where
  abbrev after : Entries
  after = set entries t (Some new)

  another : (u : ℕ) (p : Entry) → In entries id u p → u ≢ t
  another u p w e = let there : entry_at entries t ≡ Some p = subst (λ v. entry_at entries v ≡ Some p) e w.0 in absurd (cc)

  in_new : In after id t new
  in_new = (get_or-set_same entries t (Some new) None within, here)

  in_old : (u : ℕ) (p : Entry) → In entries id u p → In after id u p
  in_old u p w = (unchanged entries t (Some new) u p (another u p w) w.0, w.1)

  new_turn : (p : Entry) → Some new ≡ Some p → turn new ≡ turn p
  new_turn p e = let same : new ≡ p = cc in ap turn same

  sort_after : (links : List Link) (ends : Ends) → same_sort new.rank Fifo ≡ true → IsThreaded entries links id ends → (u : ℕ) (p : Entry) → p.queue ≡ id → Changed entries t (Some new) u p → same_sort p.rank Fifo ≡ true
  sort_after links ends fifo h u p i (this e n) = let same : new ≡ p = cc in subst (λ (x : Entry). same_sort x.rank Fifo ≡ true) same fifo
  sort_after links ends fifo h u p i (other n e) = h.sort u p (e, i)

  one_more : (links : List Link) (ends : Ends) → IsThreaded entries links id ends → ends.count + 1 ≡ count_by (is_in id) after
  one_more links ends h =
      let more : count_by (is_in id) after + 0 ≡ count_by (is_in id) entries + 1 = rw (free, is_in_from id new here) at (count-set entries id t (Some new) within) in
      let same = h.count in omega arith

  -- ---- at the end

  module _ (late : (u : ℕ) (p : Entry) → entry_at entries u ≡ Some p → turn p <ℤ turn new) where
    first_stays : (f : ℕ) → HasFirstTurn entries id f → HasFirstTurn after id f
    first_stays f h = record { entry = h.entry; waits = in_old f h.entry h.waits; first = λ u q w. go u q w.1 (changed entries t (Some new) u q w.0) }
      where
        go : (u : ℕ) (q : Entry) → q.queue ≡ id → Changed entries t (Some new) u q → turn h.entry ≤ℤ turn q
        go u q i (this e n) = let less = late f h.entry h.waits.0 in let same = new_turn q n in omega (arith, ints)
        go u q i (other n e) = h.first u q (e, i)

    first_alone : NobodyIsIn entries id → HasFirstTurn after id t
    first_alone nobody = record { entry = new; waits = in_new; first = λ u q w. go u q w.1 (changed entries t (Some new) u q w.0) }
      where
        go : (u : ℕ) (q : Entry) → q.queue ≡ id → Changed entries t (Some new) u q → turn new ≤ℤ turn q
        go u q i (this e n) = let same = new_turn q n in omega (arith, ints)
        go u q i (other n e) = absurd (nobody u q (e, i))

    last_new : IsLast after id t
    last_new = record { entry = new; waits = in_new; last = λ u q w. go u q (changed entries t (Some new) u q w.0) }
      where
        go : (u : ℕ) (q : Entry) → Changed entries t (Some new) u q → turn q ≤ℤ turn new
        go u q (this e n) = let same = new_turn q n in omega (arith, ints)
        go u q (other n e) = let less = late u q e in omega (arith, ints)

    next_new : (l : ℕ) → IsLast entries id l → IsNext after id l t
    next_new l h = record { entry = h.entry; entry_behind = new; waits = in_old l h.entry h.waits; waits_behind = in_new; before = late l h.entry h.waits.0; none_between = λ u q w. go u q w.1 (changed entries t (Some new) u q w.0) }
      where
        go : (u : ℕ) (q : Entry) → q.queue ≡ id → Changed entries t (Some new) u q → (turn q ≤ℤ turn h.entry) ⊎ (turn new ≤ℤ turn q)
        go u q i (this e n) = let same = new_turn q n in inr (omega (arith, ints))
        go u q i (other n e) = inl (h.last u q (e, i))

    next_stays : (a b : ℕ) → IsNext entries id a b → IsNext after id a b
    next_stays a b h = record { entry = h.entry; entry_behind = h.entry_behind; waits = in_old a h.entry h.waits; waits_behind = in_old b h.entry_behind h.waits_behind; before = h.before; none_between = λ u q w. go u q w.1 (changed entries t (Some new) u q w.0) }
      where
        go : (u : ℕ) (q : Entry) → q.queue ≡ id → Changed entries t (Some new) u q → (turn q ≤ℤ turn h.entry) ⊎ (turn h.entry_behind ≤ℤ turn q)
        go u q i (this e n) = let less = late b h.entry_behind h.waits_behind.0 in let same = new_turn q n in inr (omega (arith, ints))
        go u q i (other n e) = h.none_between u q (e, i)

    module _ (links : List Link) (ends : Ends) (long : length links ≡ length entries) (distinct : AreDistinct entries) (fifo : same_sort new.rank Fifo ≡ true) (h : IsThreaded entries links id ends) where
      in_links : t < length links
      in_links = omega arith

      last_in_links : IsWithin (length links) ends.last
      last_in_links = subst (λ n. IsWithin n ends.last) (sym long) (last_within entries id ends.last h.last)

      first_after : (l f : Option ℕ) → MatchOption l (NobodyIsIn entries id) (IsLast entries id) → MatchOption f (NobodyIsIn entries id) (HasFirstTurn entries id)
          → MatchOption (instead l (Some t) f) (NobodyIsIn after id) (HasFirstTurn after id)
      first_after None f nobody k = first_alone nobody
      first_after (Some l) None last nobody = absurd (nobody l last.entry last.waits)
      first_after (Some l) (Some f) last k = first_stays f k

      ahead_new : (o : Option ℕ) → MatchOption o (NobodyIsIn entries id) (IsLast entries id) → MatchOption o (HasFirstTurn after id t) (λ u. IsNext after id u t)
      ahead_new None f = first_alone f
      ahead_new (Some l) k = next_new l k

      ahead_stays : (u : ℕ) (o : Option ℕ) → MatchOption o (HasFirstTurn entries id u) (λ v. IsNext entries id v u) → MatchOption o (HasFirstTurn after id u) (λ v. IsNext after id v u)
      ahead_stays u None k = first_stays u k
      ahead_stays u (Some v) k = next_stays v u k

      ahead_after : (u : ℕ) (p : Entry) → p.queue ≡ id → Changed entries t (Some new) u p
          → MatchOption (link_at (links_appended links ends t) u).ahead (HasFirstTurn after id u) (λ v. IsNext after id v u)
      ahead_after u p i (this e n) = rw (e, appended_ahead links ends t in_links last_in_links) (ahead_new ends.last h.last)
      ahead_after u p i (other n e) = rw (appended_ahead-other links ends t in_links last_in_links u n) (ahead_stays u (link_at links u).ahead (h.ahead u p (e, i)))

      not_last : (o : Option ℕ) → MatchOption o (NobodyIsIn entries id) (IsLast entries id) → o ≢ Some t
      not_last None k e = absurd (cc)
      not_last (Some l) k e = another l k.entry k.waits (cc)

      behind_stays : (u : ℕ) (l o : Option ℕ) → MatchOption l (NobodyIsIn entries id) (IsLast entries id) → l ≢ Some u → MatchOption o (IsLast entries id u) (IsNext entries id u) → MatchOption o (IsLast after id u) (IsNext after id u)
      behind_stays u l (Some v) k n j = next_stays u v j
      behind_stays u None None k n j = absurd (k u j.entry j.waits)
      behind_stays u (Some l) None k n j = absurd (n (ap Some (one_last entries id distinct l u k j)))

      behind_last : (u : ℕ) (l : Option ℕ) → l ≡ Some u → MatchOption l (NobodyIsIn entries id) (IsLast entries id) → IsLast entries id u
      behind_last u l e k = subst (λ o. MatchOption o (NobodyIsIn entries id) (IsLast entries id)) e k

      behind_after : (u : ℕ) (p : Entry) → p.queue ≡ id → Changed entries t (Some new) u p
          → MatchOption (link_at (links_appended links ends t) u).next (IsLast after id u) (IsNext after id u)
      behind_after u p i (this e n) = rw (e, appended_behind links ends t in_links last_in_links (not_last ends.last h.last)) last_new
      behind_after u p i (other n e) = go (is_some_of ends.last u)
        where
          go : (ends.last ≡ Some u) ⊎ (ends.last ≢ Some u) → MatchOption (link_at (links_appended links ends t) u).next (IsLast after id u) (IsNext after id u)
          go (inl is) = rw (appended_behind-last links ends t in_links last_in_links u is) (next_new u (behind_last u ends.last is h.last))
          go (inr isnt) = rw (appended_others links ends t in_links last_in_links u n isnt) (behind_stays u ends.last (link_at links u).next h.last isnt (h.next u p (e, i)))

      -- the links with the task at the end lead through all of them
      pub threaded_with : IsThreaded after (links_appended links ends t) id (ends_appended ends t)
      threaded_with = record {
        first = first_after ends.last ends.first h.last h.first;
        last = last_new;
        ahead = λ u p w. ahead_after u p w.1 (changed entries t (Some new) u p w.0);
        next = λ u p w. behind_after u p w.1 (changed entries t (Some new) u p w.0);
        count = one_more links ends h;
        sort = λ u p w. sort_after links ends fifo h u p w.1 (changed entries t (Some new) u p w.0);
      }

  -- ---- at the front

  module _ (early : (u : ℕ) (p : Entry) → entry_at entries u ≡ Some p → turn new <ℤ turn p) where
    end_stays : (l : ℕ) → IsLast entries id l → IsLast after id l
    end_stays l h = record { entry = h.entry; waits = in_old l h.entry h.waits; last = λ u q w. go u q w.1 (changed entries t (Some new) u q w.0) }
      where
        go : (u : ℕ) (q : Entry) → q.queue ≡ id → Changed entries t (Some new) u q → turn q ≤ℤ turn h.entry
        go u q i (this e n) = let less = early l h.entry h.waits.0 in let same = new_turn q n in omega (arith, ints)
        go u q i (other n e) = h.last u q (e, i)

    end_alone : NobodyIsIn entries id → IsLast after id t
    end_alone nobody = record { entry = new; waits = in_new; last = λ u q w. go u q w.1 (changed entries t (Some new) u q w.0) }
      where
        go : (u : ℕ) (q : Entry) → q.queue ≡ id → Changed entries t (Some new) u q → turn q ≤ℤ turn new
        go u q i (this e n) = let same = new_turn q n in omega (arith, ints)
        go u q i (other n e) = absurd (nobody u q (e, i))

    front_new : HasFirstTurn after id t
    front_new = record { entry = new; waits = in_new; first = λ u q w. go u q (changed entries t (Some new) u q w.0) }
      where
        go : (u : ℕ) (q : Entry) → Changed entries t (Some new) u q → turn new ≤ℤ turn q
        go u q (this e n) = let same = new_turn q n in omega (arith, ints)
        go u q (other n e) = let less = early u q e in omega (arith, ints)

    second_is : (f : ℕ) → HasFirstTurn entries id f → IsNext after id t f
    second_is f h = record { entry = new; entry_behind = h.entry; waits = in_new; waits_behind = in_old f h.entry h.waits; before = early f h.entry h.waits.0; none_between = λ u q w. go u q w.1 (changed entries t (Some new) u q w.0) }
      where
        go : (u : ℕ) (q : Entry) → q.queue ≡ id → Changed entries t (Some new) u q → (turn q ≤ℤ turn new) ⊎ (turn h.entry ≤ℤ turn q)
        go u q i (this e n) = let same = new_turn q n in inl (omega (arith, ints))
        go u q i (other n e) = inr (h.first u q (e, i))

    pair_stays : (a b : ℕ) → IsNext entries id a b → IsNext after id a b
    pair_stays a b h = record { entry = h.entry; entry_behind = h.entry_behind; waits = in_old a h.entry h.waits; waits_behind = in_old b h.entry_behind h.waits_behind; before = h.before; none_between = λ u q w. go u q w.1 (changed entries t (Some new) u q w.0) }
      where
        go : (u : ℕ) (q : Entry) → q.queue ≡ id → Changed entries t (Some new) u q → (turn q ≤ℤ turn h.entry) ⊎ (turn h.entry_behind ≤ℤ turn q)
        go u q i (this e n) = let less = early a h.entry h.waits.0 in let same = new_turn q n in inl (omega (arith, ints))
        go u q i (other n e) = h.none_between u q (e, i)

    module _ (links : List Link) (ends : Ends) (long : length links ≡ length entries) (distinct : AreDistinct entries) (fifo : same_sort new.rank Fifo ≡ true) (h : IsThreaded entries links id ends) where
      task_in_links : t < length links
      task_in_links = omega arith

      first_in_links : IsWithin (length links) ends.first
      first_in_links = subst (λ n. IsWithin n ends.first) (sym long) (first_within entries id ends.first h.first)

      end_after : (f l : Option ℕ) → MatchOption f (NobodyIsIn entries id) (HasFirstTurn entries id) → MatchOption l (NobodyIsIn entries id) (IsLast entries id)
          → MatchOption (instead f (Some t) l) (NobodyIsIn after id) (IsLast after id)
      end_after None l nobody k = end_alone nobody
      end_after (Some f) None first nobody = absurd (nobody f first.entry first.waits)
      end_after (Some f) (Some l) first k = end_stays l k

      second_new : (o : Option ℕ) → MatchOption o (NobodyIsIn entries id) (HasFirstTurn entries id) → MatchOption o (IsLast after id t) (IsNext after id t)
      second_new None l = end_alone l
      second_new (Some f) k = second_is f k

      next_kept : (u : ℕ) (o : Option ℕ) → MatchOption o (IsLast entries id u) (IsNext entries id u) → MatchOption o (IsLast after id u) (IsNext after id u)
      next_kept u None k = end_stays u k
      next_kept u (Some v) k = pair_stays u v k

      next_after : (u : ℕ) (p : Entry) → p.queue ≡ id → Changed entries t (Some new) u p
          → MatchOption (link_at (links_prepended links ends t) u).next (IsLast after id u) (IsNext after id u)
      next_after u p i (this e n) = rw (e, prepended_behind links ends t task_in_links first_in_links) (second_new ends.first h.first)
      next_after u p i (other n e) = rw (prepended_behind-other links ends t task_in_links first_in_links u n) (next_kept u (link_at links u).next (h.next u p (e, i)))

      not_first : (o : Option ℕ) → MatchOption o (NobodyIsIn entries id) (HasFirstTurn entries id) → o ≢ Some t
      not_first None k e = absurd (cc)
      not_first (Some f) k e = another f k.entry k.waits (cc)

      prior_kept : (u : ℕ) (f o : Option ℕ) → MatchOption f (NobodyIsIn entries id) (HasFirstTurn entries id) → f ≢ Some u → MatchOption o (HasFirstTurn entries id u) (λ v. IsNext entries id v u)
          → MatchOption o (HasFirstTurn after id u) (λ v. IsNext after id v u)
      prior_kept u f (Some v) k n j = pair_stays v u j
      prior_kept u None None k n j = absurd (k u j.entry j.waits)
      prior_kept u (Some f) None k n j = absurd (n (ap Some (one_first entries id distinct f u k j)))

      was_first : (u : ℕ) (f : Option ℕ) → f ≡ Some u → MatchOption f (NobodyIsIn entries id) (HasFirstTurn entries id) → HasFirstTurn entries id u
      was_first u f e k = subst (λ o. MatchOption o (NobodyIsIn entries id) (HasFirstTurn entries id)) e k

      prior_after : (u : ℕ) (p : Entry) → p.queue ≡ id → Changed entries t (Some new) u p
          → MatchOption (link_at (links_prepended links ends t) u).ahead (HasFirstTurn after id u) (λ v. IsNext after id v u)
      prior_after u p i (this e n) = rw (e, prepended_ahead links ends t task_in_links first_in_links (not_first ends.first h.first)) front_new
      prior_after u p i (other n e) = go (is_some_of ends.first u)
        where
          go : (ends.first ≡ Some u) ⊎ (ends.first ≢ Some u) → MatchOption (link_at (links_prepended links ends t) u).ahead (HasFirstTurn after id u) (λ v. IsNext after id v u)
          go (inl is) = rw (prepended_ahead-first links ends t task_in_links first_in_links u is) (second_is u (was_first u ends.first is h.first))
          go (inr isnt) = rw (prepended_others links ends t task_in_links first_in_links u n isnt) (prior_kept u ends.first (link_at links u).ahead h.first isnt (h.ahead u p (e, i)))

      -- the links with the task at the front lead through all of them
      pub threaded_ahead : IsThreaded after (links_prepended links ends t) id (ends_prepended ends t)
      threaded_ahead = record {
        first = front_new;
        last = end_after ends.first ends.last h.first h.last;
        ahead = λ u p w. prior_after u p w.1 (changed entries t (Some new) u p w.0);
        next = λ u p w. next_after u p w.1 (changed entries t (Some new) u p w.0);
        count = one_more links ends h;
        sort = λ u p w. sort_after links ends fifo h u p w.1 (changed entries t (Some new) u p w.0);
      }
