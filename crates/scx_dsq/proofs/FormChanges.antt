-- A queue in either form keeps its tasks after one entered, one left, or another queue changed.
use Rattle.std.proofs.Common.{◌≡◌, ◌≢◌, ℕ, ◌+◌, ◌<◌, ◌≤◌, true, false, List, [], ◌∷◌, length, set, count_by, Option, Some, None, is_some, MatchOption, refl, sym, ap, ◌∙◌, subst, arith}
use Rattle.std.proofs.lemmas.Bool.{both_ways}
use Rattle.std.proofs.lemmas.List.{length-set}
use Rattle.std.proofs.lemmas.List.Sums.{count_by-le-length}
use Rattle.scx_dsq.specs.declared.entries.Rank.{Rank}
use Rattle.scx_dsq.specs.declared.entries.Rank.TheVariants.{Fifo, Front, Vtime}
use Rattle.scx_dsq.specs.declared.entries.Entry.{Entry}
use Rattle.scx_dsq.specs.declared.heap.Item.{Item}
use Rattle.scx_dsq.specs.declared.links.Link.{Link}
use Rattle.scx_dsq.specs.declared.links.Ends.{Ends}
use Rattle.scx_dsq.specs.declared.queue.Queue.{Queue}
use Rattle.scx_dsq.specs.Entries.{same_sort}
use Rattle.scx_dsq.specs.Queues.{Entries, QueueState, entry_at, is_in}
use Rattle.scx_dsq.specs.Laws.{HasOwnStamps}
use Rattle.scx_dsq.specs.Links.{no_ends, link_at, links_appended, links_linked, links_unlinked, In, NobodyIsIn, HasFirstTurn, IsLast, IsNext, IsThreaded}
use Rattle.scx_dsq.specs.Heaps.{IsHeap, HasSpots, IsAbsent, first_item}
use Rattle.scx_dsq.specs.Holdings.{Holds, entry_for}
use Rattle.scx_dsq.specs.Kept.{IsOfOneSort, by_links, by_heap, mixes, CanLink, with_linked, CanInsert, Inserted, CanUnlink, CanLeave, TakenOut, without_linked}
use Rattle.scx_dsq.proofs.Orders.{later_turn, earlier_turn}
use Rattle.scx_dsq.proofs.Standing.{Changed, this, other, changed, unchanged, waits_below, is_in_from, another, same_entry, count-set}
use Rattle.scx_dsq.proofs.Holdings.{holds_empty, holds_others, holds_with, holds_without, holds_vtime, holds_absent}
use Rattle.scx_dsq.proofs.Fronts.{NobodyIn, nobody_counts}
use Rattle.scx_dsq.proofs.LinkReads.{IsWithin, appended_others, prepended_others, unlinked_others}
use Rattle.scx_dsq.proofs.Threads.{last_within, first_within, ahead_within, behind_within, threaded_same}
use Rattle.scx_dsq.proofs.ThreadsWith.{threaded_with, threaded_ahead}
use Rattle.scx_dsq.proofs.ThreadsWithout.{threaded_without}
use Rattle.scx_dsq.proofs.Forms.{threaded_empty}

no_items : (items : List Item) → is_some (first_item items) ≡ false → items ≡ []
no_items [] e = refl
no_items (x ∷ xs) e = absurd (cc)

not_some : (o : Option ℕ) → is_some o ≡ false → o ≡ None
not_some None e = refl
not_some (Some t) e = absurd (cc)

same_ends : (f l : Option ℕ) (n : ℕ) → f ≡ None → l ≡ None → n ≡ 0 → ◌≡◌ {A = Ends} (record { first = f; last = l; count = n }) no_ends
same_ends f l n a b c = rw (a, b, c) refl

-- an empty queue has no ends
ends_of_nobody : (s : QueueState) (links : List Link) (id : ℕ) (ends : Ends) → NobodyIn s id → ends.first ≡ None → IsThreaded s.entries links id ends → ends ≡ no_ends
ends_of_nobody s links id ends nobody none h = same_ends ends.first ends.last ends.count none (go ends.last h.last) (h.count ∙ nobody_counts s id nobody)
  where
    go : (o : Option ℕ) → MatchOption o (NobodyIsIn s.entries id) (IsLast s.entries id) → o ≡ None
    go None k = refl
    go (Some l) k = absurd (nobody l k.entry k.waits)

nobody_held : (s : QueueState) (id : ℕ) → Holds s.entries id [] → NobodyIn s id
nobody_held s id h t p w = let is = h.all t p w in let inside = is.inside in absurd (omega arith)

-- one who waits nowhere isn't among the tasks of the queue
one_more : (entries : Entries) (id t : ℕ) (p : Entry) → t < length entries → entry_at entries t ≡ None → p.queue ≡ id → count_by (is_in id) entries < length entries
one_more entries id t p within free here =
    let more : count_by (is_in id) (set entries t (Some p)) + 0 ≡ count_by (is_in id) entries + 1 = rw (free, is_in_from id p here) at (count-set entries id t (Some p) within) in
    omega (arith, more, count_by-le-length (is_in id) (set entries t (Some p)), length-set entries t (Some p))

-- ---- a task enters a queue in FIFO order, at its end or at its front

module _ (s : QueueState) (links : List Link) (q : Queue) (t : ℕ) (p : Entry) (stamps : HasOwnStamps s) (within : t < length s.entries) (free : entry_at s.entries t ≡ None) (here : p.queue ≡ q.id)
    (long : length links ≡ length s.entries) (fits : mixes Fifo q ≡ false) (form : IsOfOneSort s.entries links q) where
  -- a queue that takes FIFO tasks has its tasks between its ends
  as_threaded : IsOfOneSort s.entries links q → IsThreaded s.entries links q.id q.ends × (q.heap.items ≡ [])
  as_threaded (by_links h empty) = (h, empty)
  as_threaded (by_heap h none) =
      let empty = no_items q.heap.items fits in
      let nobody = nobody_held s q.id (subst (Holds s.entries q.id) empty h) in
      (subst (IsThreaded s.entries links q.id) (sym none) (threaded_empty s links q.id nobody), empty)

  -- a queue that takes FIFO tasks takes this one at its end or at its front
  pub can_link : CanLink links q t
  can_link =
      let h = (as_threaded form).0 in
      let one = one_more s.entries q.id t p within free here in
      let count = h.count in
      record {
        task = omega arith;
        first = subst (λ n. IsWithin n q.ends.first) (sym long) (first_within s.entries q.id q.ends.first h.first);
        last = subst (λ n. IsWithin n q.ends.last) (sym long) (last_within s.entries q.id q.ends.last h.last);
        count = omega arith;
      }

  -- such a queue keeps its tasks, with this one there
  pub form_linked : (rank : Rank) → p.rank ≡ rank → same_sort rank Fifo ≡ true → ((u : ℕ) (o : Entry) → entry_at s.entries u ≡ Some o → o.stamp < p.stamp)
      → IsOfOneSort (set s.entries t (Some p)) (links_linked rank links q.ends t) (with_linked rank q t)
  form_linked Fifo is order late =
      let h = as_threaded form in
      by_links (threaded_with s.entries q.id t p here free within (λ u o e. later_turn o.rank p.rank o.stamp p.stamp is (late u o e)) links q.ends long stamps (ap (λ r. same_sort r Fifo) is) h.0) h.1
  form_linked Front is order late =
      let h = as_threaded form in
      by_links (threaded_ahead s.entries q.id t p here free within (λ u o e. earlier_turn o.rank p.rank o.stamp p.stamp is (late u o e)) links q.ends long stamps (ap (λ r. same_sort r Fifo) is) h.0) h.1
  form_linked (Vtime k) is order late = absurd (cc)

  last_elsewhere : IsOfOneSort s.entries links q → (id u : ℕ) (o : Entry) → id ≢ q.id → In s.entries id u o → q.ends.last ≢ Some u
  last_elsewhere (by_heap h none) id u o n w e = let gone : None ≡ Some u = sym (ap (λ (x : Ends). x.last) none) ∙ e in absurd (cc)
  last_elsewhere (by_links h empty) id u o n w e =
      let k : IsLast s.entries q.id u = subst (λ l. MatchOption l (NobodyIsIn s.entries q.id) (IsLast s.entries q.id)) e h.last in
      n (sym w.1 ∙ ap (λ (x : Entry). x.queue) (same_entry s.entries u o k.entry w.0 k.waits.0) ∙ k.waits.1)

  first_elsewhere : IsOfOneSort s.entries links q → (id u : ℕ) (o : Entry) → id ≢ q.id → In s.entries id u o → q.ends.first ≢ Some u
  first_elsewhere (by_heap h none) id u o n w e = let gone : None ≡ Some u = sym (ap (λ (x : Ends). x.first) none) ∙ e in absurd (cc)
  first_elsewhere (by_links h empty) id u o n w e =
      let k : HasFirstTurn s.entries q.id u = subst (λ f. MatchOption f (NobodyIsIn s.entries q.id) (HasFirstTurn s.entries q.id)) e h.first in
      n (sym w.1 ∙ ap (λ (x : Entry). x.queue) (same_entry s.entries u o k.entry w.0 k.waits.0) ∙ k.waits.1)

  not_entering : (id u : ℕ) (o : Entry) → In s.entries id u o → u ≢ t
  not_entering id u o w e = let there : entry_at s.entries t ≡ Some o = subst (λ v. entry_at s.entries v ≡ Some o) e w.0 in absurd (cc)

  appended_agree : (id : ℕ) → id ≢ q.id → (u : ℕ) (o : Entry) → In s.entries id u o → link_at (links_appended links q.ends t) u ≡ link_at links u
  appended_agree id n u o w =
      appended_others links q.ends t can_link.task can_link.last u (not_entering id u o w) (last_elsewhere form id u o n w)

  -- and the links in other queues stay
  pub linked_agree : (rank : Rank) (id : ℕ) → id ≢ q.id → (u : ℕ) (o : Entry) → In s.entries id u o → link_at (links_linked rank links q.ends t) u ≡ link_at links u
  linked_agree Fifo id n u o w = appended_agree id n u o w
  linked_agree Front id n u o w = prepended_others links q.ends t can_link.task can_link.first u (not_entering id u o w) (first_elsewhere form id u o n w)
  linked_agree (Vtime k) id n u o w = appended_agree id n u o w

-- ---- a task enters a queue by virtual time

-- such a queue has its tasks in its heap
pub as_held : (s : QueueState) (links : List Link) (q : Queue) (k : ℕ) → mixes (Vtime k) q ≡ false → IsOfOneSort s.entries links q → Holds s.entries q.id q.heap.items × (q.ends ≡ no_ends)
as_held s links q k fits (by_heap h none) = (h, none)
as_held s links q k fits (by_links h empty) =
    let first = not_some q.ends.first fits in
    let nobody : NobodyIn s q.id = subst (λ o. MatchOption o (NobodyIsIn s.entries q.id) (HasFirstTurn s.entries q.id)) first h.first in
    (subst (Holds s.entries q.id) (sym empty) (holds_empty s q.id nobody), ends_of_nobody s links q.id q.ends nobody first h)

module _ (s : QueueState) (links : List Link) (q : Queue) (x : Item) (within : x.task < length s.entries) (free : entry_at s.entries x.task ≡ None) (fits : mixes (Vtime x.priority.key) q ≡ false) (form : IsOfOneSort s.entries links q) where
  -- a queue that takes tasks by virtual time takes this one into its heap
  pub can_insert : (spots : List ℕ) → length spots ≡ length s.entries → length s.entries ≤ q.heap.room → HasSpots q.heap.items spots → IsHeap q.heap.items → CanInsert spots q x
  can_insert spots long room stand heap =
      let h = (as_held s links q x.priority.key fits form).0 in
      let one = one_more s.entries q.id x.task (entry_for q.id x.priority) within free refl in
      let count = h.count in
      record {
        room = omega arith;
        task = omega arith;
        absent = holds_absent s.entries q.id q.heap.items x.task (rw free refl) h;
        placed = stand;
        heap = heap;
      }

  -- and keeps its tasks, with this one in its heap
  pub form_inserted : (spots stood : List ℕ) (new : Queue) → Inserted spots q x stood new → IsOfOneSort (set s.entries x.task (Some (entry_for q.id x.priority))) links new
  form_inserted spots stood new e =
      let h = as_held s links q x.priority.key fits form in
      by_heap (subst (λ v. Holds (set s.entries x.task (Some (entry_for q.id x.priority))) v new.heap.items) (sym e.id) (holds_with s.entries q.id q.heap.items new.heap.items x within free e.same h.0)) (e.ends ∙ h.1)

-- ---- a task leaves

module _ (s : QueueState) (links : List Link) (q : Queue) (t : ℕ) (p : Entry) (stamps : HasOwnStamps s) (waits : In s.entries q.id t p) (long : length links ≡ length s.entries) where
  left_threaded : same_sort p.rank Fifo ≡ true → IsOfOneSort s.entries links q → IsThreaded s.entries links q.id q.ends × (q.heap.items ≡ [])
  left_threaded is (by_links h empty) = (h, empty)
  left_threaded is (by_heap h none) = absurd (both_ways (same_sort p.rank Fifo) (holds_vtime s.entries q.id q.heap.items h t p waits) is)

  -- the queue of a task that waits by virtual time has its tasks in its heap
  pub left_held : (k : ℕ) → p.rank ≡ Vtime k → IsOfOneSort s.entries links q → Holds s.entries q.id q.heap.items × (q.ends ≡ no_ends)
  left_held k is (by_heap h none) = (h, none)
  left_held k is (by_links h empty) = let bad : false ≡ true = rw is at (h.sort t p waits) in absurd (cc)

  some_there : 0 < count_by (is_in q.id) s.entries
  some_there =
      let less : count_by (is_in q.id) (set s.entries t None) + 1 ≡ count_by (is_in q.id) s.entries + 0 = rw (waits.0, is_in_from q.id p waits.1) at (count-set s.entries q.id t None (waits_below s.entries t p waits.0)) in
      omega arith

  can_unlink : same_sort p.rank Fifo ≡ true → IsOfOneSort s.entries links q → CanUnlink links q t
  can_unlink is form =
      let h = (left_threaded is form).0 in
      let within = waits_below s.entries t p waits.0 in
      let some = some_there in
      let count = h.count in
      record {
        task = omega arith;
        ahead = subst (λ n. IsWithin n (link_at links t).ahead) (sym long) (ahead_within s.entries q.id t (link_at links t).ahead (h.ahead t p waits));
        next = subst (λ n. IsWithin n (link_at links t).next) (sym long) (behind_within s.entries q.id t (link_at links t).next (h.next t p waits));
        count = omega arith;
      }

  -- a task that waits can be taken out, by its links or from the heap
  pub can_leave : (rank : Rank) (spots : List ℕ) → p.rank ≡ rank → HasSpots q.heap.items spots → IsHeap q.heap.items → IsOfOneSort s.entries links q → CanLeave rank links spots q t
  can_leave Fifo spots is stand heap form = can_unlink (ap (λ r. same_sort r Fifo) is) form
  can_leave Front spots is stand heap form = can_unlink (ap (λ r. same_sort r Fifo) is) form
  can_leave (Vtime k) spots is stand heap form = record { task = (left_held k is form).0.all t p waits; placed = stand; heap = heap }

  -- the queue of a FIFO task keeps the others after it was taken out
  pub form_unlinked : same_sort p.rank Fifo ≡ true → IsOfOneSort s.entries links q → IsOfOneSort (set s.entries t None) (links_unlinked links t) (without_linked links q t)
  form_unlinked is form =
      let h = left_threaded is form in
      by_links (threaded_without s.entries q.id t p waits stamps links q.ends long h.0) h.1

  -- and so does that of a task by virtual time
  pub form_taken_out : (k : ℕ) (spots stood : List ℕ) (new : Queue) → p.rank ≡ Vtime k → IsOfOneSort s.entries links q → TakenOut spots q t stood new → IsOfOneSort (set s.entries t None) links new
  form_taken_out k spots stood new is form e =
      let h = left_held k is form in
      let within : e.item.task < length s.entries = subst (λ u. u < length s.entries) (sym e.task) (waits_below s.entries t p waits.0) in
      let gone = subst (λ u. IsAbsent new.heap.items u) (sym e.task) e.gone in
      let after = holds_without s.entries q.id q.heap.items new.heap.items e.item within e.same gone h.0 in
      let here : Holds (set s.entries t None) q.id new.heap.items = subst (λ u. Holds (set s.entries u None) q.id new.heap.items) e.task after in
      by_heap (subst (λ v. Holds (set s.entries t None) v new.heap.items) (sym e.id) here) (e.ends ∙ h.1)

  in_one_queue : (id u : ℕ) (o r : Entry) → id ≢ q.id → In s.entries id u o → In s.entries q.id u r → ⊥
  in_one_queue id u o r n w k = n (sym w.1 ∙ ap (λ (x : Entry). x.queue) (same_entry s.entries u o r w.0 k.0) ∙ k.1)

  -- the links in other queues stay
  pub unlinked_agree : same_sort p.rank Fifo ≡ true → IsOfOneSort s.entries links q → (id : ℕ) → id ≢ q.id → (u : ℕ) (o : Entry) → In s.entries id u o → link_at (links_unlinked links t) u ≡ link_at links u
  unlinked_agree is form id n u o w =
      let h = (left_threaded is form).0 in
      let ahead = h.ahead t p waits in
      let behind = h.next t p waits in
      unlinked_others links t (subst (λ m. IsWithin m (link_at links t).ahead) (sym long) (ahead_within s.entries q.id t (link_at links t).ahead ahead))
      (subst (λ m. IsWithin m (link_at links t).next) (sym long) (behind_within s.entries q.id t (link_at links t).next behind)) u (not_ahead (link_at links t).ahead ahead) (not_behind (link_at links t).next behind)
    where
      not_ahead : (a : Option ℕ) → MatchOption a (HasFirstTurn s.entries q.id t) (λ v. IsNext s.entries q.id v t) → a ≢ Some u
      not_ahead None h e = absurd (cc)
      not_ahead (Some v) h e = let same : v ≡ u = cc in in_one_queue id u o h.entry n w (subst (λ x. In s.entries q.id x h.entry) same h.waits)

      not_behind : (b : Option ℕ) → MatchOption b (IsLast s.entries q.id t) (IsNext s.entries q.id t) → b ≢ Some u
      not_behind None h e = absurd (cc)
      not_behind (Some v) h e = let same : v ≡ u = cc in in_one_queue id u o h.entry_behind n w (subst (λ x. In s.entries q.id x h.entry_behind) same h.waits_behind)

-- ---- another queue changes

module _ (entries : Entries) (id t : ℕ) (new : Option Entry) (within : t < length entries) (out : is_in id (entry_at entries t) ≡ false) (stays : is_in id new ≡ false) where
  to : (u : ℕ) (q : Entry) → In entries id u q → In (set entries t new) id u q
  to u q w = (unchanged entries t new u q (another entries id t u q out w.0 w.1) w.0, w.1)

  from : (u : ℕ) (q : Entry) → In (set entries t new) id u q → In entries id u q
  from u q w = (go (changed entries t new u q w.0), w.1)
    where
      go : Changed entries t new u q → entry_at entries u ≡ Some q
      go (this same e) = absurd (both_ways (is_in id new) stays (subst (λ v. is_in id v ≡ true) (sym e) (is_in_from id q w.1)))
      go (other n e) = e

  same_count : count_by (is_in id) (set entries t new) ≡ count_by (is_in id) entries
  same_count =
      let f : count_by (is_in id) (set entries t new) + 0 ≡ count_by (is_in id) entries + 0 = rw (out, stays) at (count-set entries id t new within) in
      omega arith

  -- a queue in which the task was not, and is not, keeps its tasks
  pub form_others : (links others : List Link) (q : Queue) → q.id ≡ id → ((u : ℕ) (o : Entry) → In entries id u o → link_at others u ≡ link_at links u) → IsOfOneSort entries links q → IsOfOneSort (set entries t new) others q
  form_others links others q is agree (by_links h empty) =
      by_links (subst (λ v. IsThreaded (set entries t new) others v q.ends) (sym is) (threaded_same entries (set entries t new) id to from links others q.ends agree same_count (subst (λ v. IsThreaded entries links v q.ends) is h))) empty
  form_others links others q is agree (by_heap h none) =
      by_heap (subst (λ v. Holds (set entries t new) v q.heap.items) (sym is) (holds_others entries id q.heap.items t new within out stays (subst (λ v. Holds entries v q.heap.items) is h))) none
