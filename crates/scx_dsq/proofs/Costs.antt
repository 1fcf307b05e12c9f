-- What a call on a queue costs, by the queue's array before and after.
use Rattle.std.proofs.Common.{◌≡◌, ◌≢◌, ℕ, zero, suc, ◌<◌, ◌≤◌, true, ◌==◌, ◌⊎◌, inl, inr, List, [], ◌∷◌, length, get_or, set, refl, sym, ap, ◌∙◌, subst, arith}
use Rattle.std.specs.List.{position_or_len}
use Rattle.std.proofs.lemmas.Bool.{eq-eqb, eqb-true, ne_eqb, cases_lt}
use Rattle.std.proofs.lemmas.List.{get_or-set_same, get_or-set_other, length-map, get_or_past, get_or_default}
use Rattle.std.proofs.lemmas.List.Sums.{position_or_len_is, passes_at_first}
use Rattle.scx_dsq.specs.declared.entries.Rank.TheVariants.{Fifo}
use Rattle.scx_dsq.specs.declared.entries.Entry.{Entry}
use Rattle.scx_dsq.specs.declared.heap.Item.{Item}
use Rattle.scx_dsq.specs.declared.queue.Queue.{Queue}
use Rattle.scx_dsq.specs.declared.queues.Queues.TheInside.{Inside}
use Rattle.scx_dsq.specs.Entries.{same_sort}
use Rattle.scx_dsq.specs.Queues.{Waits}
use Rattle.scx_dsq.specs.Heaps.{IsCheap}
use Rattle.scx_dsq.specs.Arrays.{QueuesValue, array_of, IsPaid}
use Rattle.scx_dsq.specs.Holdings.{Holds, HasArrays}
use Rattle.scx_dsq.specs.Links.{no_ends}
use Rattle.scx_dsq.specs.Kept.{ids_of, arrays_of, IsOfOneSort, by_links, by_heap, state_of, value_of, IsKept}
use Rattle.scx_dsq.proofs.Keeping.{id_at}

-- ---- nothing changes

-- an array that stays as it was, without a comparison, is cheap
pub cheap_none : (items : List Item) → IsCheap items items 0
cheap_none items = record { comparisons = λ d lt. omega arith; changes = λ d lt. record { positions = []; few = omega arith; differs = λ k e out. refl } }

-- a call that changes nothing and compares nothing is paid
pub paid_none : (v w : QueuesValue) (id steps : ℕ) → w ≡ v → steps ≡ 0 → IsPaid v w id steps
paid_none v w id steps same none = rw (same, none) (record { cheap = cheap_none (array_of v id); fifo = λ t p w is. refl; others = λ other n. refl })

-- ---- the array of a queue

array_at : (live : List Queue) (k : ℕ) (q : Queue) → k < length live → get_or (arrays_of live) k [] ≡ (get_or live k q).heap.items
array_at [] k q lt = absurd (omega arith)
array_at (x ∷ live) zero q lt = refl
array_at (x ∷ live) (suc k) q lt = array_at live k q (omega arith)

-- a change that leaves the array of one queue leaves all of them
pub arrays_same : (live : List Queue) (k : ℕ) (q new : Queue) → q ≡ get_or live k q → new.heap.items ≡ q.heap.items → arrays_of (set live k new) ≡ arrays_of live
arrays_same [] k q new read same = refl
arrays_same (x ∷ live) zero q new read same = ap (λ items. items ∷ arrays_of live) (same ∙ ap (λ (y : Queue). y.heap.items) read)
arrays_same (x ∷ live) (suc k) q new read same = ap (λ arrays. x.heap.items ∷ arrays) (arrays_same live k q new read same)

-- the position of an id among the ids is that of its queue
index_is : (i : Inside) (k : ℕ) (q : Queue) → IsKept i → k < length i.live.items → q ≡ get_or i.live.items k q → position_or_len (λ other. other == q.id) (ids_of i.live.items) ≡ k
index_is i k q h lt read =
    let here : get_or (ids_of i.live.items) k q.id ≡ q.id = id_at i.live.items k q ∙ sym (ap (λ (x : Queue). x.id) read) in
    let long = length-map i.live.items (λ (x : Queue). x.id) in
    position_or_len_is (λ other. other == q.id) (ids_of i.live.items) k q.id (omega (arith, long))
    (λ m below. ne_eqb (get_or (ids_of i.live.items) m q.id) q.id (λ e. h.sound.queues.distinct m k q.id below (omega (arith, long)) (e ∙ sym here)))
    (λ inside. eq-eqb (get_or (ids_of i.live.items) k q.id) q.id here)

-- the array of a queue's id is that of its heap
pub array_is : (i : Inside) (k : ℕ) (q : Queue) → IsKept i → k < length i.live.items → q ≡ get_or i.live.items k q → array_of (value_of i) q.id ≡ q.heap.items
array_is i k q h lt read =
    ap (λ m. get_or (arrays_of i.live.items) m []) (index_is i k q h lt read) ∙ array_at i.live.items k q lt ∙ sym (ap (λ (x : Queue). x.heap.items) read)

-- each array has nobody, or those who wait in its queue
pub arrays_held : (i : Inside) → IsKept i → HasArrays (value_of i)
arrays_held i h id = by (cases_lt index (length (ids_of i.live.items)))
  where
    index : ℕ
    index = position_or_len (λ other. other == id) (ids_of i.live.items)

    any : Queue
    any = record { id = id; ends = no_ends; heap = record { room = 0; items = [] } }

    form : (q : Queue) → array_of (value_of i) id ≡ q.heap.items → q.id ≡ id → IsOfOneSort i.entries.items i.links.items q → (array_of (value_of i) id ≡ []) ⊎ Holds i.entries.items id (array_of (value_of i) id)
    form q same is (by_links f empty) = inl (same ∙ empty)
    form q same is (by_heap held none) = inr (subst (λ items. Holds i.entries.items id items) (sym same) (subst (λ v. Holds i.entries.items v q.heap.items) is held))

    by : (index < length (ids_of i.live.items)) ⊎ (length (ids_of i.live.items) ≤ index) → (array_of (value_of i) id ≡ []) ⊎ Holds i.entries.items id (array_of (value_of i) id)
    by (inr past) = inl (get_or_past (arrays_of i.live.items) index [] (omega (arith, past, length-map i.live.items (λ (x : Queue). x.id), length-map i.live.items (λ (x : Queue). x.heap.items))))
    by (inl lt) =
        let inside : index < length i.live.items = omega (arith, lt, length-map i.live.items (λ (x : Queue). x.id)) in
        let q = get_or i.live.items index any in
        let read : q ≡ get_or i.live.items index q = get_or_default i.live.items index any q inside in
        let is : q.id ≡ id = sym (id_at i.live.items index any) ∙ eqb-true _ id (passes_at_first (λ other. other == id) (ids_of i.live.items) any.id lt) in
        form q (array_at i.live.items index any inside) is (h.live index any inside).tasks

-- ---- one queue changes

module _ (i j : Inside) (k : ℕ) (q new : Queue) (h : IsKept i) (inside : k < length i.live.items) (read : q ≡ get_or i.live.items k q) (ids : ids_of j.live.items ≡ ids_of i.live.items)
    (arrays : arrays_of j.live.items ≡ set (arrays_of i.live.items) k new.heap.items) where
  array_after : array_of (value_of j) q.id ≡ new.heap.items
  array_after =
      let index : position_or_len (λ other. other == q.id) (ids_of j.live.items) ≡ k = ap (λ xs. position_or_len (λ other. other == q.id) xs) ids ∙ index_is i k q h inside read in
      rw (index, arrays) (get_or-set_same (arrays_of i.live.items) k new.heap.items [] (omega (arith, length-map i.live.items (λ (x : Queue). x.heap.items))))

  array_beside : (other : ℕ) → other ≢ q.id → array_of (value_of j) other ≡ array_of (value_of i) other
  array_beside other n =
      let index : position_or_len (λ o. o == other) (ids_of j.live.items) ≡ position_or_len (λ o. o == other) (ids_of i.live.items) = ap (λ xs. position_or_len (λ o. o == other) xs) ids in
      rw (index, arrays) (get_or-set_other (arrays_of i.live.items) k (position_or_len (λ o. o == other) (ids_of i.live.items)) new.heap.items [] elsewhere)
    where
      elsewhere : position_or_len (λ o. o == other) (ids_of i.live.items) ≢ k
      elsewhere e =
          let long = length-map i.live.items (λ (x : Queue). x.id) in
          let passes : (get_or (ids_of i.live.items) (position_or_len (λ o. o == other) (ids_of i.live.items)) q.id == other) ≡ true = passes_at_first (λ o. o == other) (ids_of i.live.items) q.id (omega (arith, long, e)) in
          let here : get_or (ids_of i.live.items) k q.id ≡ q.id = id_at i.live.items k q ∙ sym (ap (λ (x : Queue). x.id) read) in
          let found : get_or (ids_of i.live.items) k q.id ≡ other = subst (λ m. get_or (ids_of i.live.items) m q.id ≡ other) e (eqb-true _ other passes) in
          n (sym found ∙ here)

  -- what a call costs on the one queue that it changes, where all ids stay
  pub paid : (steps : ℕ) → IsCheap q.heap.items new.heap.items steps → ((t : ℕ) (p : Entry) → Waits (state_of i) q.id t p → same_sort p.rank Fifo ≡ true → steps ≡ 0) → IsPaid (value_of i) (value_of j) q.id steps
  paid steps cheap fifo = record {
    cheap = rw (array_is i k q h inside read, array_after) cheap;
    fifo = fifo;
    others = array_beside;
  }

-- what a call costs on a queue, by another name of its id
pub paid_by : {old new : QueuesValue} {steps : ℕ} (id other : ℕ) → id ≡ other → IsPaid old new id steps → IsPaid old new other steps
paid_by {old} {new} {steps} id other same paid = subst (λ q. IsPaid old new q steps) same paid
