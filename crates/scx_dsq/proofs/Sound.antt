-- Each call keeps the laws of the queues.
use Rattle.std.proofs.Common.{◌≡◌, ◌≢◌, ℕ, ◌+◌, ◌<◌, true, false, ◌==◌, [], ◌∷◌, length, get_or, Some, None, refl, sym, ap, ◌∙◌, subst, arith, ◌⊎◌, inl, inr}
use Rattle.std.specs.List.{list_any}
use Rattle.std.proofs.lemmas.Bool.{both_ways, eq-eqb, or_left, cases_Bool}
use Rattle.std.proofs.lemmas.List.{length_push}
use Rattle.std.proofs.lemmas.List.Quantifiers.{all_pairs_push}
use Rattle.std.proofs.lemmas.List.Folds.{list_any_at, list_any-append}
use Rattle.scx_dsq.specs.declared.entries.Rank.{Rank}
use Rattle.scx_dsq.specs.declared.entries.Rank.TheVariants.{Fifo, Front, Vtime}
use Rattle.scx_dsq.specs.declared.entries.Entry.{Entry}
use Rattle.scx_dsq.specs.Entries.{same_sort}
use Rattle.scx_dsq.specs.Queues.{QueueState, exists, entry_at, entry_of}
use Rattle.scx_dsq.specs.Laws.{IsSound}
use Rattle.scx_dsq.specs.Calls.{clashes, with_queue, with_task, without_task, next_entry}
use Rattle.scx_dsq.proofs.Standing.{Changed, this, other, changed, waits_below}

-- ---- a queue more

-- a new queue keeps the laws, if its id is new and there is room
pub sound_with_queue : (s : QueueState) (id : ℕ) → exists s id ≡ false → length s.ids < s.room → IsSound s → IsSound (with_queue s id)
sound_with_queue s id new room h = record {
  queues = record { distinct = all_pairs_push (λ a b. a ≢ b) s.ids id h.queues.distinct apart; within = omega (arith, length_push s.ids id) };
  homes = λ t p e. list_any-append (λ x. x == p.queue) s.ids (id ∷ []) ∙ or_left _ _ (h.homes t p e);
  sorts = h.sorts;
  stamped = h.stamped;
  stamps = h.stamps;
}
  where
    apart : (k : ℕ) (d : ℕ) → k < length s.ids → get_or s.ids k d ≢ id
    apart k d lt same =
        both_ways (exists s id) new (list_any_at (λ x. x == id) s.ids k d lt (eq-eqb (get_or s.ids k d) id same))

-- ---- a task more

same_sort-sym : (a b : Rank) → same_sort a b ≡ true → same_sort b a ≡ true
same_sort-sym Fifo Fifo h = h
same_sort-sym Fifo Front h = h
same_sort-sym Fifo (Vtime x) h = h
same_sort-sym Front Fifo h = h
same_sort-sym Front Front h = h
same_sort-sym Front (Vtime x) h = h
same_sort-sym (Vtime x) Fifo h = h
same_sort-sym (Vtime x) Front h = h
same_sort-sym (Vtime x) (Vtime y) h = h

same_sort-self : (a : Rank) → same_sort a a ≡ true
same_sort-self Fifo = refl
same_sort-self Front = refl
same_sort-self (Vtime x) = refl

-- those in the queue are of the sort, if none clashes
pub fits : (s : QueueState) (id t : ℕ) (rank : Rank) (p : Entry) → list_any (clashes id rank) s.entries ≡ false → entry_of s t ≡ Some p → p.queue ≡ id → same_sort p.rank rank ≡ true
fits s id t rank p none e here = go (cases_Bool (same_sort p.rank rank))
  where
    go : (same_sort p.rank rank ≡ true) ⊎ (same_sort p.rank rank ≡ false) → same_sort p.rank rank ≡ true
    go (inl same) = same
    go (inr differs) =
        let clash : clashes id rank (entry_at s.entries t) ≡ true = rw (e, eq-eqb p.queue id here, differs) refl in
        absurd (both_ways (list_any (clashes id rank) s.entries) none (list_any_at (clashes id rank) s.entries t None (waits_below s.entries t p e) clash))

-- a push keeps them, if the queue is there and no task of the other sort is in it
pub sound_with_task : (s : QueueState) (id t : ℕ) (rank : Rank) → exists s id ≡ true → list_any (clashes id rank) s.entries ≡ false → IsSound s → IsSound (with_task s id t rank)
sound_with_task s id t rank there none h = record {
  queues = record { distinct = h.queues.distinct; within = h.queues.within };
  homes = λ u p e. home u p (was u p e);
  sorts = λ u v p q e f same. sort u v p q (was u p e) (was v q f) same;
  stamped = λ u p e. stamp u p (was u p e);
  stamps = λ u v p q n e f. own u v p q n (was u p e) (was v q f);
}
  where
    new : Entry
    new = next_entry s id rank

    is_new : (p : Entry) → Some new ≡ Some p → new ≡ p
    is_new p e = cc

    was : (u : ℕ) (p : Entry) → entry_of (with_task s id t rank) u ≡ Some p → Changed s.entries t (Some new) u p
    was u p e = changed s.entries t (Some new) u p e

    home : (u : ℕ) (p : Entry) → Changed s.entries t (Some new) u p → exists s p.queue ≡ true
    home u p (this same e) = subst (λ v. exists s v.queue ≡ true) (is_new p e) there
    home u p (other n e) = h.homes u p e

    sort : (u v : ℕ) (p q : Entry) → Changed s.entries t (Some new) u p → Changed s.entries t (Some new) v q → p.queue ≡ q.queue → same_sort p.rank q.rank ≡ true
    sort u v p q (this n e) (this m f) same =
        let one = is_new p e in
        let two = is_new q f in
        subst (λ w. same_sort w.rank q.rank ≡ true) one (subst (λ w. same_sort new.rank w.rank ≡ true) two (same_sort-self rank))
    sort u v p q (this n e) (other m f) same =
        let one = is_new p e in
        let here : q.queue ≡ id = sym same ∙ sym (ap (λ w. w.queue) one) in
        subst (λ w. same_sort w.rank q.rank ≡ true) one (same_sort-sym q.rank rank (fits s id v rank q none f here))
    sort u v p q (other n e) (this m f) same =
        let two = is_new q f in
        let here : p.queue ≡ id = same ∙ sym (ap (λ w. w.queue) two) in
        subst (λ w. same_sort p.rank w.rank ≡ true) two (fits s id u rank p none e here)
    sort u v p q (other n e) (other m f) same = h.sorts u v p q e f same

    stamp : (u : ℕ) (p : Entry) → Changed s.entries t (Some new) u p → p.stamp < s.pushes + 1
    stamp u p (this same e) = let one : s.pushes ≡ p.stamp = ap (λ w. w.stamp) (is_new p e) in omega arith
    stamp u p (other n e) = let below : p.stamp < s.pushes = h.stamped u p e in omega arith

    own : (u v : ℕ) (p q : Entry) → u ≢ v → Changed s.entries t (Some new) u p → Changed s.entries t (Some new) v q → p.stamp ≢ q.stamp
    own u v p q n (this a e) (this b f) same = n (a ∙ sym b)
    own u v p q n (this a e) (other b f) same =
        let one : s.pushes ≡ p.stamp = ap (λ w. w.stamp) (is_new p e) in
        let below : q.stamp < s.pushes = h.stamped v q f in
        omega arith
    own u v p q n (other a e) (this b f) same =
        let one : s.pushes ≡ q.stamp = ap (λ w. w.stamp) (is_new q f) in
        let below : p.stamp < s.pushes = h.stamped u p e in
        omega arith
    own u v p q n (other a e) (other b f) same = h.stamps u v p q n e f same

-- ---- a task less

-- a removal keeps them
pub sound_without_task : (s : QueueState) (t : ℕ) → IsSound s → IsSound (without_task s t)
sound_without_task s t h = record {
  queues = record { distinct = h.queues.distinct; within = h.queues.within };
  homes = λ u p e. h.homes u p (was u p e);
  sorts = λ u v p q e f same. h.sorts u v p q (was u p e) (was v q f) same;
  stamped = λ u p e. h.stamped u p (was u p e);
  stamps = λ u v p q n e f. h.stamps u v p q n (was u p e) (was v q f);
}
  where
    go : (u : ℕ) (p : Entry) → Changed s.entries t None u p → entry_of s u ≡ Some p
    go u p (this same e) = absurd (cc)
    go u p (other n e) = e

    was : (u : ℕ) (p : Entry) → entry_of (without_task s t) u ≡ Some p → entry_of s u ≡ Some p
    was u p e = go u p (changed s.entries t None u p e)
