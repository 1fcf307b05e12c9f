-- Who waits right behind a task, as it is computed.
use Rattle.std.proofs.Common.{◌≡◌, ◌≢◌, ℕ, ◌<◌, ◌<ℤ◌, ◌≤ℤ◌, Bool, true, false, ◌==◌, ◌&&◌, not, List, get_or, Option, Some, None, IfSome, MatchOption, position, refl, sym, ap, ◌∙◌, subst, arith, ⊎_elim}
use Rattle.std.specs.List.{list_all}
use Rattle.std.proofs.lemmas.Bool.{both_ways, eq-eqb, eqb-true, and_from, and_parts, cases_Bool, false_from_ne_true}
use Rattle.std.proofs.lemmas.Int.{ints}
use Rattle.std.proofs.lemmas.List.{get_or_default}
use Rattle.std.proofs.lemmas.List.Sums.{list_all-from_AllPass}
use Rattle.std.proofs.lemmas.List.Folds.{list_all_at}
use Rattle.std.proofs.lemmas.List.Quantifiers.{position-Some}
use Rattle.scx_dsq.specs.declared.entries.Rank.{Rank}
use Rattle.scx_dsq.specs.declared.entries.Rank.TheVariants.{Fifo, Front, Vtime}
use Rattle.scx_dsq.specs.declared.entries.Entry.{Entry}
use Rattle.scx_dsq.specs.declared.links.Link.{Link}
use Rattle.scx_dsq.specs.declared.queue.Queue.{Queue}
use Rattle.scx_dsq.specs.declared.queues.Queues.TheInside.{Inside}
use Rattle.scx_dsq.specs.Entries.{is_before, same_sort, turn}
use Rattle.scx_dsq.specs.Queues.{Entries, QueueState, task_count, entry_at, entry_of, is_ahead, is_behind, is_right_behind, next_by, right_behind, behind_of}
use Rattle.scx_dsq.specs.Laws.{HasOwnStamps}
use Rattle.scx_dsq.specs.Links.{link_at, In, IsLast, IsNext, IsThreaded}
use Rattle.scx_dsq.specs.Kept.{IsOfOneSort, by_links, by_heap, state_of, IsKept}
use Rattle.scx_dsq.proofs.Orders.{apart_turns, earlier_turns, before_turns}
use Rattle.scx_dsq.proofs.Positions.{position_is, no_position}
use Rattle.scx_dsq.proofs.Standing.{waits_below, same_entry}
use Rattle.scx_dsq.proofs.Threads.{two_turns}
use Rattle.scx_dsq.proofs.Holdings.{holds_vtime}
use Rattle.scx_dsq.proofs.QueueReads.{row_at}
use Rattle.scx_dsq.proofs.Removals.{IsWaiting}

left_false : (a b : Bool) → a ≡ false → (a && b) ≡ false
left_false true b e = absurd (cc)
left_false false b e = refl

right_false : (a b : Bool) → b ≡ false → (a && b) ≡ false
right_false true b e = e
right_false false b e = refl

module _ (s : QueueState) (links : List Link) (q : Queue) (stamps : HasOwnStamps s) (f : IsThreaded s.entries links q.id q.ends) (t : ℕ) (p : Entry) (w : In s.entries q.id t p) where
  -- no task comes after the last
  none_after : IsLast s.entries q.id t → position (is_right_behind s.entries p) s.entries ≡ None
  none_after l = no_position (is_right_behind s.entries p) s.entries (λ k d lt. go k (get_or s.entries k d) (get_or_default s.entries k None d lt))
    where
      go : (k : ℕ) (o : Option Entry) → entry_at s.entries k ≡ o → is_right_behind s.entries p o ≡ false
      go k None e = refl
      go k (Some v) e = false_from_ne_true _ (λ h.
          let both = and_parts (is_behind p (Some v)) _ h in
          let parts = and_parts (v.queue == p.queue) (is_before p v) both.0 in
          let here : v.queue ≡ q.id = eqb-true v.queue p.queue parts.0 ∙ w.1 in
          let less : turn p <ℤ turn v = earlier_turns p v (f.sort t p w) (f.sort k v (e, here)) parts.1 in
          let mine : turn l.entry ≡ turn p = ap turn (same_entry s.entries t l.entry p l.waits.0 w.0) in
          let most : turn v ≤ℤ turn l.entry = l.last k v (e, here) in
          omega (arith, ints, less, mine, most))

  module _ (u : ℕ) (n : IsNext s.entries q.id t u) where
    mine : turn n.entry ≡ turn p
    mine = ap turn (same_entry s.entries t n.entry p n.waits.0 w.0)

    here : (n.entry_behind.queue == p.queue) ≡ true
    here = eq-eqb n.entry_behind.queue p.queue (n.waits_behind.1 ∙ sym w.1)

    behind : is_behind p (Some n.entry_behind) ≡ true
    behind =
        let less : turn p <ℤ turn n.entry_behind = let lt = n.before in omega (arith, ints, lt, mine) in
        and_from (n.entry_behind.queue == p.queue) (is_before p n.entry_behind) here (before_turns p n.entry_behind (f.sort t p w) (f.sort u n.entry_behind n.waits_behind) less)

    between : (k : ℕ) (o : Option Entry) → entry_at s.entries k ≡ o → (is_behind p o && is_ahead p.queue n.entry_behind o) ≡ false
    between k None e = refl
    between k (Some v) e = false_from_ne_true _ (λ h.
        let both = and_parts (is_behind p (Some v)) (is_ahead p.queue n.entry_behind (Some v)) h in
        let first = and_parts (v.queue == p.queue) (is_before p v) both.0 in
        let second = and_parts (v.queue == p.queue) (is_before v n.entry_behind) both.1 in
        let inside : v.queue ≡ q.id = eqb-true v.queue p.queue first.0 ∙ w.1 in
        let after : turn p <ℤ turn v = earlier_turns p v (f.sort t p w) (f.sort k v (e, inside)) first.1 in
        let before : turn v <ℤ turn n.entry_behind = earlier_turns v n.entry_behind (f.sort k v (e, inside)) (f.sort u n.entry_behind n.waits_behind) second.1 in
        ⊎_elim
        (λ (x : turn v ≤ℤ turn n.entry). omega (arith, ints, after, x, mine))
        (λ (x : turn n.entry_behind ≤ℤ turn v). omega (arith, ints, before, x))
        (n.none_between k v (e, inside)))

    not_next : (k : ℕ) (v : Entry) → k ≢ u → entry_at s.entries k ≡ Some v → is_behind p (Some v) ≡ true → list_all (λ other. not (is_behind p other && is_ahead p.queue v other)) s.entries ≡ false
    not_next k v ne e after =
        let parts = and_parts (v.queue == p.queue) (is_before p v) after in
        let inside : v.queue ≡ q.id = eqb-true v.queue p.queue parts.0 ∙ w.1 in
        let less : turn p <ℤ turn v = earlier_turns p v (f.sort t p w) (f.sort k v (e, inside)) parts.1 in
        let differ : turn v ≢ turn n.entry_behind = two_turns v n.entry_behind (stamps k u v n.entry_behind ne e n.waits_behind.0) in
        let sooner : turn n.entry_behind <ℤ turn v =
        ⊎_elim
        (λ (x : turn v ≤ℤ turn n.entry). absurd (omega (arith, ints, less, x, mine)))
        (λ (x : turn n.entry_behind ≤ℤ turn v). apart_turns (turn n.entry_behind) (turn v) x (λ same. differ (sym same)))
        (n.none_between k v (e, inside)) in
        let ahead : is_ahead p.queue v (Some n.entry_behind) ≡ true =
        and_from (n.entry_behind.queue == p.queue) (is_before n.entry_behind v) here (before_turns n.entry_behind v (f.sort u n.entry_behind n.waits_behind) (f.sort k v (e, inside)) sooner) in
        let both : (is_behind p (entry_at s.entries u) && is_ahead p.queue v (entry_at s.entries u)) ≡ true =
        subst (λ (o : Option Entry). (is_behind p o && is_ahead p.queue v o) ≡ true) (sym n.waits_behind.0)
        (and_from (is_behind p (Some n.entry_behind)) (is_ahead p.queue v (Some n.entry_behind)) behind ahead) in
        list_all_at (λ other. not (is_behind p other && is_ahead p.queue v other)) s.entries u None (waits_below s.entries u n.entry_behind n.waits_behind.0) (ap (λ b. not b) both)

    others : (k : ℕ) → k ≢ u → (o : Option Entry) → entry_at s.entries k ≡ o → is_right_behind s.entries p o ≡ false
    others k ne None e = refl
    others k ne (Some v) e =
        ⊎_elim
        (λ (after : is_behind p (Some v) ≡ true). right_false (is_behind p (Some v)) (list_all (λ other. not (is_behind p other && is_ahead p.queue v other)) s.entries) (not_next k v ne e after))
        (λ (out : is_behind p (Some v) ≡ false). left_false (is_behind p (Some v)) (list_all (λ other. not (is_behind p other && is_ahead p.queue v other)) s.entries) out)
        (cases_Bool (is_behind p (Some v)))

    passes : is_right_behind s.entries p (Some n.entry_behind) ≡ true
    passes =
        and_from (is_behind p (Some n.entry_behind)) (list_all (λ o. not (is_behind p o && is_ahead p.queue n.entry_behind o)) s.entries) behind
        (list_all-from_AllPass (λ o. not (is_behind p o && is_ahead p.queue n.entry_behind o)) s.entries
        (λ k d lt. ap (λ b. not b) (between k (get_or s.entries k d) (get_or_default s.entries k None d lt))))

    -- the next one is the one that is computed
    next_is : position (is_right_behind s.entries p) s.entries ≡ Some u
    next_is =
        position_is (is_right_behind s.entries p) s.entries u None (waits_below s.entries u n.entry_behind n.waits_behind.0)
        (subst (λ (o : Option Entry). is_right_behind s.entries p o ≡ true) (sym n.waits_behind.0) passes)
        (λ k ne. others k ne (entry_at s.entries k) refl)

  linked : (o : Option ℕ) → MatchOption o (IsLast s.entries q.id t) (IsNext s.entries q.id t) → o ≡ position (is_right_behind s.entries p) s.entries
  linked None l = sym (none_after l)
  linked (Some u) n = sym (next_is u n)

next_in_order : (entries : Entries) (p : Entry) (r : Rank) → same_sort r Fifo ≡ true → next_by r entries p ≡ position (is_right_behind entries p) entries
next_in_order entries p Fifo e = refl
next_in_order entries p Front e = refl
next_in_order entries p (Vtime k) e = absurd (cc)

-- the link of a task in a FIFO queue is who waits right behind it
pub behind_at : (i : Inside) (k t : ℕ) (p : Entry) (q : Queue) → IsKept i → IsWaiting i k t p q → same_sort p.rank Fifo ≡ true → (link_at i.links.items t).next ≡ behind_of (state_of i) t
unfolding behind_of
behind_at i k t p q h w fifo =
    go (row_at i k q h w.inside w.read).tasks ∙ sym (ap (λ o. right_behind i.entries.items o) w.waits ∙ next_in_order i.entries.items p p.rank fifo)
  where
    go : IsOfOneSort i.entries.items i.links.items q → (link_at i.links.items t).next ≡ position (is_right_behind i.entries.items p) i.entries.items
    go (by_links f empty) = linked (state_of i) i.links.items q h.sound.stamps f t p (w.waits, sym w.is) (link_at i.links.items t).next (f.next t p (w.waits, sym w.is))
    go (by_heap held none) =
        absurd (both_ways (same_sort p.rank Fifo) (holds_vtime i.entries.items q.id q.heap.items held t p (w.waits, sym w.is)) fifo)

-- no task comes after one that waits nowhere
pub none_after_none : (s : QueueState) (t : ℕ) → entry_of s t ≡ None → behind_of s t ≡ None
unfolding behind_of
none_after_none s t e = ap (λ o. right_behind s.entries o) e

-- after a task that waits by virtual time none is looked for
pub none_after_vtime : (s : QueueState) (t key : ℕ) (p : Entry) → entry_of s t ≡ Some p → p.rank ≡ Vtime key → behind_of s t ≡ None
unfolding behind_of
none_after_vtime s t key p e r = ap (λ o. right_behind s.entries o) e ∙ ap (λ k. next_by k s.entries p) r

-- who waits behind another is a task that there is
pub behind_is_known : (s : QueueState) (t : ℕ) (o : Option ℕ) → o ≡ behind_of s t → IfSome o (λ u. u < task_count s)
unfolding behind_of
behind_is_known s t None e = tt
behind_is_known s t (Some u) e = go (entry_of s t) (sym e)
  where
    by : (r : Rank) (p : Entry) → next_by r s.entries p ≡ Some u → u < task_count s
    by Fifo p x = (position-Some (is_right_behind s.entries p) s.entries u None x).0
    by Front p x = (position-Some (is_right_behind s.entries p) s.entries u None x).0
    by (Vtime key) p x = absurd (cc)

    go : (o : Option Entry) → right_behind s.entries o ≡ Some u → u < task_count s
    go None x = absurd (cc)
    go (Some p) x = by p.rank p x
