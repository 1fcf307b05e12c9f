-- The first queues, and a queue more.
use Rattle.std.proofs.Common.{◌≡◌, ℕ, zero, suc, ◌+◌, ◌≤◌, false, List, [], ◌∷◌, ◌++◌, length, insert, All, Some, None, vec_capacity, replicate, refl, sym, ap, ◌∙◌, subst, arith}
use Rattle.std.proofs.lemmas.Bool.{lt-leb}
use Rattle.std.proofs.lemmas.List.{length_push, length-replicate, length-map, map-append}
use Rattle.std.proofs.lemmas.List.Elements.{All-append, All-cons, All-nil, All-pop}
use Rattle.scx_dsq.specs.declared.entries.Entry.{Entry}
use Rattle.scx_dsq.specs.declared.queue.Queue.{Queue}
use Rattle.scx_dsq.specs.declared.queues.Queues.TheInside.{Inside}
use Rattle.scx_dsq.specs.Queues.{Entries, QueueState, exists, entry_at}
use Rattle.scx_dsq.specs.Calls.{after_create}
use Rattle.scx_dsq.specs.Laws.{IsSound}
use Rattle.scx_dsq.specs.Links.{no_ends}
use Rattle.scx_dsq.specs.Heaps.{HeapState, IsHeap, HasSpots}
use Rattle.scx_dsq.specs.Holdings.{Holds}
use Rattle.scx_dsq.specs.Kept.{ids_of, arrays_of, by_heap, Keeps, IsSpare, state_of, IsKept}
use Rattle.scx_dsq.proofs.Fronts.{NobodyIn}
use Rattle.scx_dsq.proofs.Holdings.{holds_empty}
use Rattle.scx_dsq.proofs.Sound.{sound_with_queue}
use Rattle.scx_dsq.proofs.QueueReads.{nobody_elsewhere}
use Rattle.std.proofs.lemmas.List.Edits.{length-insert}
use Rattle.scx_dsq.specs.Order.{IsOrder, IsGap}
use Rattle.scx_dsq.proofs.Keeping.{same_state}
use Rattle.scx_dsq.proofs.Ordering.{missing, order_with}

heap_of_none : IsHeap []
heap_of_none k some lt = absurd (omega arith)

no_spots : (spots : List ℕ) → HasSpots [] spots
no_spots spots k d e lt = absurd (omega arith)

-- ---- a queue more

-- with a queue more, which takes a spare heap, the queues are kept
pub created_keeps : (i j : Inside) (id gap : ℕ) (heap : HeapState) → IsKept i → IsGap (ids_of i.live.items) i.order.items id gap → j.order.items ≡ insert i.order.items gap (length i.live.items) → vec_capacity i.order ≤ vec_capacity j.order
    → i.spare.items ≡ j.spare.items ++ heap ∷ [] → j.live.items ≡ i.live.items ++ record { id = id; ends = no_ends; heap = heap } ∷ [] → vec_capacity j.live ≡ vec_capacity i.live → j.entries ≡ i.entries → j.links ≡ i.links → j.spots ≡ i.spots → j.pushes ≡ i.pushes
    → IsKept j
created_keeps i j id gap heap h g order order_capacity spare live capacity entries links spots pushes = record {
  sound = subst IsSound (sym (same_state _ _ _ _ _ _ _ _ same_room same_ids same_entries pushes)) (sound_with_queue (state_of i) id new (omega (arith, fewer, length-map i.live.items (λ (q : Queue). q.id))) h.sound);
  live = rw (entries, links, spots, live) (All-append (Keeps i.entries.items i.links.items i.spots.items) i.live.items _ h.live (All-cons (Keeps i.entries.items i.links.items i.spots.items) queue [] here (All-nil _)));
  order = rw (same_ids, order) (subst (λ n. IsOrder (ids_of i.live.items ++ id ∷ []) (insert i.order.items gap n)) (length-map i.live.items (λ (q : Queue). q.id)) (order_with (ids_of i.live.items) i.order.items id gap h.order g));
  spare = subst (λ ps. All (IsSpare ps) j.spare.items) (sym same_entries) heaps.0;
  room = omega (arith, h.room, capacity, same_room);
  orders = omega (arith, h.orders, order_capacity, fewer, ap length order, length-insert i.order.items gap (length i.live.items) g.within);
  links = ap (λ v. length v.items) links ∙ h.links ∙ sym (ap (λ v. length v.items) entries);
  spots = ap (λ v. length v.items) spots ∙ h.spots ∙ sym (ap (λ v. length v.items) entries);
}
  where
    queue : Queue
    queue = record { id = id; ends = no_ends; heap = heap }

    new : exists (state_of i) id ≡ false
    new = missing (ids_of i.live.items) i.order.items id gap h.order g

    same_entries : j.entries.items ≡ i.entries.items
    same_entries = ap (λ v. v.items) entries

    fewer : length i.spare.items ≡ length j.spare.items + 1
    fewer = ap length spare ∙ length_push j.spare.items heap

    more : length j.live.items ≡ length i.live.items + 1
    more = ap length live ∙ length_push i.live.items queue

    same_room : length j.live.items + length j.spare.items ≡ length i.live.items + length i.spare.items
    same_room = omega (arith, fewer, more)

    same_ids : ids_of j.live.items ≡ ids_of i.live.items ++ id ∷ []
    same_ids = ap ids_of live ∙ map-append (λ (q : Queue). q.id) i.live.items (queue ∷ [])

    heaps : All (IsSpare i.entries.items) j.spare.items × IsSpare i.entries.items heap
    heaps = All-pop (IsSpare i.entries.items) i.spare.items j.spare.items (Some heap) spare h.spare

    nobody : NobodyIn (state_of i) id
    nobody = nobody_elsewhere (state_of i) id h.sound new

    here : Keeps i.entries.items i.links.items i.spots.items queue
    here = record {
      tasks = by_heap (subst (Holds i.entries.items id) (sym heaps.1.0) (holds_empty (state_of i) id nobody)) refl;
      room = heaps.1.1;
      heap = subst IsHeap (sym heaps.1.0) heap_of_none;
      placed = subst (λ items. HasSpots items i.spots.items) (sym heaps.1.0) (no_spots i.spots.items);
    }

-- the state is then that of the call
pub created_state : (i : Inside) (live : List Queue) (spare : List HeapState) (id : ℕ) (heap : HeapState) → exists (state_of i) id ≡ false → i.spare.items ≡ spare ++ heap ∷ [] → live ≡ i.live.items ++ record { id = id; ends = no_ends; heap = heap } ∷ []
    → ◌≡◌ {A = QueueState} (record { room = length live + length spare; ids = ids_of live; entries = i.entries.items; pushes = i.pushes }) (after_create (state_of i) id)
created_state i live spare id heap new popped is =
    let queue : Queue = record { id = id; ends = no_ends; heap = heap } in
    let fewer : length i.spare.items ≡ length spare + 1 = ap length popped ∙ length_push spare heap in
    let more : length live ≡ length i.live.items + 1 = ap length is ∙ length_push i.live.items queue in
    let roomy = lt-leb (length i.live.items + length i.spare.items) (length (ids_of i.live.items)) (omega (arith, fewer, length-map i.live.items (λ (q : Queue). q.id))) in
    rw (new, roomy) (same_state _ _ _ _ _ _ _ _ (omega (arith, fewer, more)) (ap ids_of is ∙ map-append (λ (q : Queue). q.id) i.live.items (queue ∷ [])) refl refl)

-- its array is empty
pub created_arrays : (i : Inside) (live : List Queue) (id : ℕ) (heap : HeapState) → IsKept i → (spare : List HeapState) → i.spare.items ≡ spare ++ heap ∷ [] → live ≡ i.live.items ++ record { id = id; ends = no_ends; heap = heap } ∷ []
    → arrays_of live ≡ arrays_of i.live.items ++ [] ∷ []
created_arrays i live id heap h spare popped is =
    let empty = (All-pop (IsSpare i.entries.items) i.spare.items spare (Some heap) popped h.spare).1.0 in
    ap arrays_of is ∙ map-append (λ (q : Queue). q.heap.items) i.live.items (record { id = id; ends = no_ends; heap = heap } ∷ []) ∙ ap (λ items. arrays_of i.live.items ++ items ∷ []) empty

-- ---- no queue yet

-- with none, and all heaps spare, they are
pub new_keeps : (i : Inside) (tasks : ℕ) → i.live.items ≡ [] → All (λ heap. heap ≡ record { room = tasks; items = [] }) i.spare.items → i.entries.items ≡ replicate tasks None
    → length i.links.items ≡ tasks → length i.spots.items ≡ tasks → length i.spare.items ≤ vec_capacity i.live → i.order.items ≡ [] → length i.spare.items ≤ vec_capacity i.order → IsKept i
new_keeps i tasks live spare entries links spots room order order_room = record {
  sound = record {
    queues = record { distinct = rw live (λ a b d lt within. absurd (omega arith)); within = rw live (omega arith) };
    homes = λ t p e. absurd (nowhere t p e);
    sorts = λ t u p q e f same. absurd (nowhere t p e);
    stamped = λ t p e. absurd (nowhere t p e);
    stamps = λ t u p q n e f. absurd (nowhere t p e);
  };
  live = rw live (All-nil _);
  order = rw (live, order) (record { within = All-nil _; ascending = λ a b d lt inside. absurd (omega arith); all = λ m lt. absurd (omega arith) });
  spare = λ k d lt. let heap = spare k d lt in rw heap (refl, omega (arith, long));
  room = let none : length i.live.items ≡ 0 = ap (λ (qs : List Queue). length qs) live in omega arith;
  orders = let none : length i.order.items ≡ 0 = ap (λ (xs : List ℕ). length xs) order in omega arith;
  links = omega (arith, links, long);
  spots = omega (arith, spots, long);
}
  where
    long : length i.entries.items ≡ tasks
    long = ap (λ (ps : Entries). length ps) entries ∙ length-replicate tasks None

    nowhere : (t : ℕ) (p : Entry) → entry_at i.entries.items t ≡ Some p → ⊥
    nowhere t p e =
        let none : entry_at (replicate tasks None) t ≡ None = none_there tasks t in
        let some : entry_at (replicate tasks None) t ≡ Some p = subst (λ ps. entry_at ps t ≡ Some p) entries e in
        absurd (cc)
      where
        none_there : (n k : ℕ) → entry_at (replicate n None) k ≡ None
        none_there zero k = refl
        none_there (suc n) zero = refl
        none_there (suc n) (suc k) = none_there n k
