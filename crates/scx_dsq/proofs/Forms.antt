-- A queue in either form: what it answers, and that it keeps its tasks after a change there or elsewhere.
use Rattle.std.proofs.Common.{◌≡◌, ◌≢◌, ℕ, ◌≤ℤ◌, Bool, true, false, ◌==◌, ◌&&◌, not, List, [], ◌∷◌, length, get_or, Option, Some, None, is_some, IfSome, IfNone, MatchOption, refl, sym, ap, ◌∙◌, subst, arith, if◌then◌else◌}
use Rattle.std.specs.List.{list_any}
use Rattle.std.proofs.lemmas.Bool.{both_ways, eq-eqb, eqb-true, and_parts, not-true, false_from_ne_true}
use Rattle.std.proofs.lemmas.Int.{ints}
use Rattle.std.proofs.lemmas.List.{get_or_default}
use Rattle.std.proofs.lemmas.List.Folds.{list_any_at, list_any_none}
use Rattle.scx_dsq.specs.declared.entries.Rank.{Rank}
use Rattle.scx_dsq.specs.declared.entries.Rank.TheVariants.{Fifo, Front, Vtime}
use Rattle.scx_dsq.specs.declared.entries.Entry.{Entry}
use Rattle.scx_dsq.specs.declared.heap.Item.{Item}
use Rattle.scx_dsq.specs.declared.links.Link.{Link}
use Rattle.scx_dsq.specs.declared.queue.Queue.{Queue}
use Rattle.scx_dsq.specs.Entries.{same_sort, turn, is_before}
use Rattle.scx_dsq.specs.Queues.{Entries, QueueState, entry_at, Waits, IsFront, front_of, len_of}
use Rattle.scx_dsq.specs.Calls.{clashes}
use Rattle.scx_dsq.specs.Laws.{HasOwnStamps}
use Rattle.scx_dsq.specs.Heaps.{IsHeap, first_item}
use Rattle.scx_dsq.specs.Holdings.{Holds, entry_for}
use Rattle.scx_dsq.specs.Links.{no_ends, link_at, or_else, In, NobodyIsIn, HasFirstTurn, IsNext, IsThreaded}
use Rattle.scx_dsq.specs.Kept.{IsOfOneSort, by_links, by_heap, front_in, len_in, sort_of, sort_in, mixes}
use Rattle.scx_dsq.proofs.Standing.{waits_below}
use Rattle.scx_dsq.proofs.Threads.{one_turn_of, two_turns}
use Rattle.scx_dsq.proofs.Orders.{before_turns, apart_turns, front_sort}
use Rattle.scx_dsq.proofs.Fronts.{NobodyIn, nobody_counts, nobody_clashes, front_is, no_front}
use Rattle.scx_dsq.proofs.Holdings.{holds_front, holds_vtime}

-- ---- an empty queue

-- an empty queue is threaded, with no ends
pub threaded_empty : (s : QueueState) (links : List Link) (id : ℕ) → NobodyIn s id → IsThreaded s.entries links id no_ends
threaded_empty s links id nobody = record {
  first = nobody;
  last = nobody;
  ahead = λ t p w. absurd (nobody t p w);
  next = λ t p w. absurd (nobody t p w);
  count = sym (nobody_counts s id nobody);
  sort = λ t p w. absurd (nobody t p w);
}

-- who waits by virtual time may wait with others who do
by_vtime : (r : Rank) (k : ℕ) → same_sort r Fifo ≡ false → same_sort r (Vtime k) ≡ true
by_vtime Fifo k unlike = absurd (cc)
by_vtime Front k unlike = absurd (cc)
by_vtime (Vtime l) k unlike = refl

-- ---- the front

first_is_front : (s : QueueState) (id f : ℕ) → HasOwnStamps s → ((t : ℕ) (p : Entry) → In s.entries id t p → same_sort p.rank Fifo ≡ true) → HasFirstTurn s.entries id f → IsFront s id f
first_is_front s id f stamps sort h = record {
  entry = h.entry;
  waits = h.waits;
  first = λ u other n w. go u other n w (h.first u other w) (sort f h.entry h.waits) (sort u other w);
}
  where
    go : (u : ℕ) (other : Entry) → u ≢ f → Waits s id u other → turn h.entry ≤ℤ turn other → same_sort h.entry.rank Fifo ≡ true → same_sort other.rank Fifo ≡ true → is_before h.entry other ≡ true
    go u other n w le a b =
        let apart = two_turns other h.entry (stamps u f other h.entry n w.0 h.waits.0) in
        before_turns h.entry other a b (apart_turns (turn h.entry) (turn other) le (λ same. apart (sym same)))

-- the front that a queue answers is its front, and none if no task waits there
pub form_front : (s : QueueState) (links : List Link) (q : Queue) → HasOwnStamps s → IsHeap q.heap.items → IsOfOneSort s.entries links q → MatchOption (front_in q) (NobodyIn s q.id) (IsFront s q.id)
form_front s links q stamps heap (by_links h empty) = go q.ends.first q.heap.items empty h.first
  where
    go : (o : Option ℕ) (items : List Item) → items ≡ [] → MatchOption o (NobodyIsIn s.entries q.id) (HasFirstTurn s.entries q.id) → MatchOption (or_else o (first_item items)) (NobodyIn s q.id) (IsFront s q.id)
    go None items e nobody = rw e nobody
    go (Some f) items e k = first_is_front s q.id f stamps h.sort k
form_front s links q stamps heap (by_heap h none) = rw none (holds_front s q.id q.heap.items stamps heap h)

-- such an answer is the front as it is computed
pub front_answer : (s : QueueState) (id : ℕ) (o : Option ℕ) → MatchOption o (NobodyIn s id) (IsFront s id) → o ≡ front_of s id
front_answer s id None nobody = sym (no_front s id nobody)
front_answer s id (Some t) f = sym (front_is s id t f)

-- who is answered is the front
pub front_first : (s : QueueState) (id : ℕ) (o : Option ℕ) → MatchOption o (NobodyIn s id) (IsFront s id) → IfSome o (IsFront s id)
front_first s id None nobody = tt
front_first s id (Some t) f = f

-- where none is answered no task waits
pub front_none : (s : QueueState) (id : ℕ) (o : Option ℕ) → MatchOption o (NobodyIn s id) (IsFront s id) → IfNone o (NobodyIn s id)
front_none s id None nobody = nobody
front_none s id (Some t) f = tt

-- ---- who the front is

-- its rank is of the sort that the queue tells
pub front_alike : (s : QueueState) (links : List Link) (q : Queue) (t : ℕ) (p : Entry) → In s.entries q.id t p → front_in q ≡ Some t → IsOfOneSort s.entries links q → same_sort p.rank (sort_in q) ≡ true
front_alike s links q t p waits front (by_links h empty) = go q.ends.first q.heap.items empty front
  where
    go : (o : Option ℕ) (items : List Item) → items ≡ [] → or_else o (first_item items) ≡ Some t → same_sort p.rank (sort_of o) ≡ true
    go None items e f = let none : None ≡ Some t = rw e at f in absurd (cc)
    go (Some u) items e f = h.sort t p waits
front_alike s links q t p waits front (by_heap h none) = rw none (by_vtime p.rank 0 (holds_vtime s.entries q.id q.heap.items h t p waits))

-- no task is ahead of it in order of arrival
pub front_ahead : (s : QueueState) (links : List Link) (q : Queue) (t : ℕ) (p : Entry) → In s.entries q.id t p → front_in q ≡ Some t → same_sort (sort_in q) Fifo ≡ true → IsOfOneSort s.entries links q → (link_at links t).ahead ≡ None
front_ahead s links q t p waits front fifo (by_links h empty) = alone (link_at links t).ahead (h.ahead t p waits)
  where
    go : (o : Option ℕ) (items : List Item) → items ≡ [] → MatchOption o (NobodyIsIn s.entries q.id) (HasFirstTurn s.entries q.id) → or_else o (first_item items) ≡ Some t → HasFirstTurn s.entries q.id t
    go None items e nobody f = let none : None ≡ Some t = rw e at f in absurd (cc)
    go (Some u) items e least f = let same : u ≡ t = cc in subst (HasFirstTurn s.entries q.id) same least

    least : HasFirstTurn s.entries q.id t
    least = go q.ends.first q.heap.items empty h.first front

    alone : (o : Option ℕ) → MatchOption o (HasFirstTurn s.entries q.id t) (λ u. IsNext s.entries q.id u t) → o ≡ None
    alone None nobody = refl
    alone (Some u) next =
        let here = one_turn_of s.entries q.id t least.entry next.entry_behind least.waits next.waits_behind in
        let first = least.first u next.entry next.waits in
        let before = next.before in
        absurd (omega (arith, ints, here, first, before))
front_ahead s links q t p waits front fifo (by_heap h none) = let bad : false ≡ true = rw none at fifo in absurd (cc)

-- ---- how many

-- the length that a queue answers is how many wait there
pub form_len : (s : QueueState) (links : List Link) (q : Queue) → IsOfOneSort s.entries links q → len_in q ≡ len_of s q.id
form_len s links q (by_links h empty) = go q.ends.first q.heap.items empty h.first
  where
    go : (o : Option ℕ) (items : List Item) → items ≡ [] → MatchOption o (NobodyIsIn s.entries q.id) (HasFirstTurn s.entries q.id) → (if is_some o then q.ends.count else length items) ≡ len_of s q.id
    go None items e nobody = rw e (sym (nobody_counts s q.id nobody))
    go (Some f) items e k = h.count
form_len s links q (by_heap h none) = rw none h.count

-- ---- whether a task would mix sorts

sorted_out : (s : QueueState) (id : ℕ) (rank : Rank) → ((t : ℕ) (p : Entry) → Waits s id t p → same_sort p.rank rank ≡ true) → list_any (clashes id rank) s.entries ≡ false
sorted_out s id rank fits = list_any_none (clashes id rank) s.entries (λ k d lt. go k (get_or s.entries k d) (get_or_default s.entries k None d lt))
  where
    go : (k : ℕ) (o : Option Entry) → entry_at s.entries k ≡ o → clashes id rank o ≡ false
    go k None e = refl
    go k (Some q) e = false_from_ne_true _ (λ c.
        let parts = and_parts (q.queue == id) (not (same_sort q.rank rank)) c in
        both_ways (same_sort q.rank rank) (not-true (same_sort q.rank rank) parts.1) (fits k q (e, eqb-true q.queue id parts.0)))

clash_at : (s : QueueState) (id t : ℕ) (p : Entry) (rank : Rank) → Waits s id t p → same_sort p.rank rank ≡ false → list_any (clashes id rank) s.entries ≡ true
clash_at s id t p rank w unlike =
    let clash : clashes id rank (entry_at s.entries t) ≡ true = rw (w.0, eq-eqb p.queue id w.1, unlike) refl in
    list_any_at (clashes id rank) s.entries t None (waits_below s.entries t p w.0) clash

-- an array mixes with FIFO tasks if it isn't empty
array_mixes : (s : QueueState) (id : ℕ) (items : List Item) → Holds s.entries id items → is_some (first_item items) ≡ list_any (clashes id Fifo) s.entries
array_mixes s id [] h = sym (nobody_clashes s id Fifo (λ t p w. let is = h.all t p w in let inside = is.inside in absurd (omega arith)))
array_mixes s id (x ∷ xs) h = sym (clash_at s id x.task (entry_for id x.priority) Fifo (h.there 0 x (omega arith), refl) refl)

-- what came in order of arrival isn't of the sort of those by virtual time
not_by_vtime : (r : Rank) (k : ℕ) → same_sort r Fifo ≡ true → same_sort r (Vtime k) ≡ false
not_by_vtime Fifo k e = refl
not_by_vtime Front k e = refl
not_by_vtime (Vtime l) k e = absurd (cc)

clash_alike : (id : ℕ) (o : Option Entry) → clashes id Fifo o ≡ clashes id Front o
clash_alike id None = refl
clash_alike id (Some p) = ap (λ b. p.queue == id && not b) (sym (front_sort p.rank))

-- a rank clashes at the front where it clashes at the end
front_clashes : (id : ℕ) (entries : Entries) → list_any (clashes id Fifo) entries ≡ list_any (clashes id Front) entries
front_clashes id entries = ap (λ (f : Option Entry → Bool). list_any f entries) (λ i o. clash_alike id o i)

fifo_clash : (s : QueueState) (links : List Link) (q : Queue) → IsOfOneSort s.entries links q → mixes Fifo q ≡ list_any (clashes q.id Fifo) s.entries
fifo_clash s links q (by_links h empty) = rw empty (sym (sorted_out s q.id Fifo h.sort))
fifo_clash s links q (by_heap h none) = array_mixes s q.id q.heap.items h

-- a queue mixes with a rank where the rank clashes with one who waits there
pub form_clash : (s : QueueState) (rank : Rank) (links : List Link) (q : Queue) → IsOfOneSort s.entries links q → mixes rank q ≡ list_any (clashes q.id rank) s.entries
form_clash s Fifo links q form = fifo_clash s links q form
form_clash s Front links q form = fifo_clash s links q form ∙ front_clashes q.id s.entries
form_clash s (Vtime k) links q (by_links h empty) = go q.ends.first h.first
  where
    go : (o : Option ℕ) → MatchOption o (NobodyIsIn s.entries q.id) (HasFirstTurn s.entries q.id) → is_some o ≡ list_any (clashes q.id (Vtime k)) s.entries
    go None nobody = sym (nobody_clashes s q.id (Vtime k) nobody)
    go (Some f) first = sym (clash_at s q.id f first.entry (Vtime k) first.waits (not_by_vtime first.entry.rank k (h.sort f first.entry first.waits)))
form_clash s (Vtime k) links q (by_heap h none) =
    rw none (sym (sorted_out s q.id (Vtime k) (λ t p w. by_vtime p.rank k (holds_vtime s.entries q.id q.heap.items h t p w))))
