-- Queues that become what others are.
use Rattle.std.proofs.Common.{◌≡◌, ℕ, suc, ◌+◌, ◌<◌, ◌≤◌, List, [], ◌∷◌, map, length, get_or, All, vec_capacity, refl, sym, ap, ◌∙◌, subst, arith}
use Rattle.std.proofs.lemmas.List.{length-map}
use Rattle.std.proofs.lemmas.List.Sums.{count_by-le-length}
use Rattle.scx_dsq.specs.declared.heap.Item.{Item}
use Rattle.scx_dsq.specs.declared.links.Ends.{Ends}
use Rattle.scx_dsq.specs.declared.links.Link.{Link}
use Rattle.scx_dsq.specs.declared.queue.Queue.{Queue}
use Rattle.scx_dsq.specs.declared.queues.Queues.TheInside.{Inside}
use Rattle.scx_dsq.specs.Queues.{Entries, is_in}
use Rattle.scx_dsq.specs.Laws.{IsSound}
use Rattle.scx_dsq.specs.Heaps.{HeapState}
use Rattle.scx_dsq.specs.Kept.{ids_of, arrays_of, IsOfOneSort, by_links, by_heap, Keeps, state_of, value_of, IsKept, IsCopy, AreCopies, HaveRoomFor, AreSame}
use Rattle.scx_dsq.proofs.Keeping.{same_state}

-- what is the same of each of two queues is the same of all
same_map : {B : Type 0} (f : Queue → B) (xs ys : List Queue) → length xs ≡ length ys → ((k : ℕ) (d : Queue) → k < length xs → f (get_or xs k d) ≡ f (get_or ys k d)) → map f xs ≡ map f ys
same_map f [] [] long same = refl
same_map f [] (y ∷ ys) long same = absurd (omega (arith, long))
same_map f (x ∷ xs) [] long same = absurd (omega (arith, long))
same_map f (x ∷ xs) (y ∷ ys) long same =
    let first : f x ≡ f y = same 0 x (omega arith) in
    let others : map f xs ≡ map f ys = same_map f xs ys (omega (arith, long)) (λ k d lt. same (suc k) d (omega (arith, lt))) in
    rw (first, others) refl

-- a kept queue has no more items than there are tasks
items_few : (entries : Entries) (links : List Link) (spots : List ℕ) (q : Queue) → IsOfOneSort entries links q → length q.heap.items ≤ length entries
items_few entries links spots q (by_links threaded none) = rw none (omega arith)
items_few entries links spots q (by_heap holds none) = omega (arith, holds.count, count_by-le-length (is_in q.id) entries)

-- with more room a queue is kept
module _ (entries : Entries) (links : List Link) (spots : List ℕ) where
  same_sort : (id : ℕ) (ends : Ends) (items : List Item) (room other : ℕ)
      → IsOfOneSort entries links (record { id = id; ends = ends; heap = record { room = other; items = items } })
      → IsOfOneSort entries links (record { id = id; ends = ends; heap = record { room = room; items = items } })
  same_sort id ends items room other (by_links threaded none) = by_links threaded none
  same_sort id ends items room other (by_heap holds none) = by_heap holds none

  with_room : (id : ℕ) (ends : Ends) (items : List Item) (room other : ℕ)
      → length entries ≤ room
      → Keeps entries links spots (record { id = id; ends = ends; heap = record { room = other; items = items } })
      → Keeps entries links spots (record { id = id; ends = ends; heap = record { room = room; items = items } })
  with_room id ends items room other roomy h = record {
    tasks = same_sort id ends items room other h.tasks;
    room = roomy;
    heap = h.heap;
    placed = h.placed;
  }

  -- so is a copy of a kept one
  copy_keeps : (q other new : Queue) → IsCopy q other new → length entries ≤ q.heap.room → Keeps entries links spots other → Keeps entries links spots new
  copy_keeps q other new c roomy h =
      let given : Keeps entries links spots (record { id = new.id; ends = new.ends; heap = record { room = other.heap.room; items = new.heap.items } }) = rw (c.id, c.ends, c.items) h in
      with_room new.id new.ends new.heap.items new.heap.room other.heap.room (omega (arith, roomy, c.room)) given

-- room for all tasks there is room for what another one holds
pub room_for : (i j : Inside) → IsKept i → IsKept j → length i.entries.items ≡ length j.entries.items → length i.live.items ≡ length j.live.items → HaveRoomFor i.live.items j.live.items
room_for i j h g tasks queues k d lt =
    let own = h.live k d lt in
    let other = g.live k d (omega (arith, lt, queues)) in
    omega (arith, own.room, items_few j.entries.items j.links.items j.spots.items _ other.tasks, tasks)

-- there are as many queues where there are the same ids
pub as_many : (xs ys : List Queue) → ids_of xs ≡ ids_of ys → length xs ≡ length ys
as_many xs ys same = sym (length-map xs (λ (q : Queue). q.id)) ∙ ap length same ∙ length-map ys (λ (q : Queue). q.id)

-- queues that have become what others are, in their own memory
module _ (i j n : Inside) (same_room : (state_of i).room ≡ (state_of j).room) (same_ids : (state_of i).ids ≡ (state_of j).ids)
    (live : AreCopies i.live.items j.live.items n.live.items) (count : length n.live.items ≡ length i.live.items) (entries : n.entries.items ≡ j.entries.items) (pushes : n.pushes ≡ j.pushes) (spare : n.spare ≡ i.spare) where
  many : length i.live.items ≡ length j.live.items
  many = as_many i.live.items j.live.items same_ids

  ids : ids_of n.live.items ≡ ids_of j.live.items
  ids = same_map (λ (q : Queue). q.id) n.live.items j.live.items (count ∙ many) (λ k d lt. (live k d (omega (arith, lt, count))).id)

  arrays : arrays_of n.live.items ≡ arrays_of j.live.items
  arrays = same_map (λ (q : Queue). q.heap.items) n.live.items j.live.items (count ∙ many) (λ k d lt. (live k d (omega (arith, lt, count))).items)

  spares : length n.spare.items ≡ length i.spare.items
  spares = ap (λ v. length v.items) spare

  as_other : state_of n ≡ state_of j
  as_other = same_state _ _ _ _ _ _ _ _ (omega (arith, same_room, count, spares)) ids entries pushes

  -- stand for what those stand for
  pub copied_value : value_of n ≡ value_of j
  copied_value = λ k. record { state = as_other k; arrays = arrays k }

  -- and are kept
  pub copied_keeps : IsKept i → IsKept j → length i.entries.items ≡ length j.entries.items → n.links.items ≡ j.links.items → n.spots.items ≡ j.spots.items → n.order ≡ i.order → vec_capacity n.live ≡ vec_capacity i.live → IsKept n
  copied_keeps h g same_tasks links spots order room = record {
    sound = subst IsSound (sym as_other) g.sound;
    live = λ k d lt.
        let within : k < length i.live.items = omega (arith, lt, count) in
        let roomy = (h.live k d within).room in
        rw (entries, links, spots) (copy_keeps j.entries.items j.links.items j.spots.items _ _ _ (live k d within) (omega (arith, roomy, same_tasks)) (g.live k d (omega (arith, within, many))));
    order = rw (ids ∙ sym same_ids, order) h.order;
    spare = rw (spare) (λ k d lt. let s = h.spare k d lt in (s.0, omega (arith, s.1, same_tasks, ap (λ (ps : Entries). length ps) entries)));
    room = omega (arith, h.room, room, count, spares);
    orders = omega (arith, h.orders, ap (λ v. length v.items) order, ap (λ v. vec_capacity v) order, spares);
    links = ap length links ∙ g.links ∙ sym (ap length entries);
    spots = ap length spots ∙ g.spots ∙ sym (ap length entries);
  }

-- queues that have what these have, in memory of their own
module _ (i n : Inside) (live : AreSame (length i.entries.items) i.live.items n.live.items) (count : length n.live.items ≡ length i.live.items) (entries : n.entries.items ≡ i.entries.items) (pushes : n.pushes ≡ i.pushes) (spares : length n.spare.items ≡ length i.spare.items) where
  own_ids : ids_of n.live.items ≡ ids_of i.live.items
  own_ids = same_map (λ (q : Queue). q.id) n.live.items i.live.items count (λ k d lt. (live k d (omega (arith, lt, count))).id)

  own_arrays : arrays_of n.live.items ≡ arrays_of i.live.items
  own_arrays = same_map (λ (q : Queue). q.heap.items) n.live.items i.live.items count (λ k d lt. (live k d (omega (arith, lt, count))).items)

  as_these : state_of n ≡ state_of i
  as_these = same_state _ _ _ _ _ _ _ _ (omega (arith, count, spares)) own_ids entries pushes

  -- stand for what these stand for
  pub duplicate_value : value_of n ≡ value_of i
  duplicate_value = λ k. record { state = as_these k; arrays = own_arrays k }

  -- and are kept
  pub duplicate_keeps : IsKept i → n.links.items ≡ i.links.items → n.spots.items ≡ i.spots.items → n.order.items ≡ i.order.items → All (λ (heap : HeapState). heap ≡ record { room = length i.entries.items; items = [] }) n.spare.items → length i.live.items + length i.spare.items ≤ vec_capacity n.live → length i.order.items + length i.spare.items ≤ vec_capacity n.order → IsKept n
  duplicate_keeps h links spots order spare room orders = record {
    sound = subst IsSound (sym as_these) h.sound;
    live = λ k d lt.
        let within : k < length i.live.items = omega (arith, lt, count) in
        rw (entries, links, spots) (copy_keeps i.entries.items i.links.items i.spots.items _ _ _ (live k d within) (omega arith) (h.live k d within));
    order = rw (own_ids, order) h.order;
    spare = λ k d lt. let e = spare k d lt in (ap (λ (x : HeapState). x.items) e, omega (arith, ap (λ (x : HeapState). x.room) e, ap (λ (ps : Entries). length ps) entries));
    room = omega (arith, room, count, spares);
    orders = omega (arith, orders, ap (λ (xs : List ℕ). length xs) order, spares);
    links = ap length links ∙ h.links ∙ sym (ap length entries);
    spots = ap length spots ∙ h.spots ∙ sym (ap length entries);
  }

-- each has as few items as there are tasks
pub few_each : (i : Inside) → IsKept i → All (λ (q : Queue). length q.heap.items ≤ length i.entries.items) i.live.items
few_each i h k d lt = items_few i.entries.items i.links.items i.spots.items _ (h.live k d lt).tasks
