-- A push keeps the queues in step with where the tasks wait.
use Rattle.std.proofs.Common.{◌≡◌, ◌≢◌, ℕ, true, false, ◌+◌, ◌<◌, List, [], ◌∷◌, ◌++◌, length, set, Some, None, refl, sym, ap, ◌∙◌, subst, arith}
use Rattle.std.specs.Vec.{with_item, with_items}
use Rattle.std.proofs.lemmas.Bool.{both_ways, ne_eqb}
use Rattle.std.proofs.lemmas.List.{with_items_is, length-set}
use Rattle.scx_dsq.specs.declared.entries.Rank.{Rank}
use Rattle.scx_dsq.specs.declared.entries.Rank.TheVariants.{Fifo, Front, Vtime}
use Rattle.scx_dsq.specs.declared.entries.Entry.{Entry}
use Rattle.scx_dsq.specs.declared.priority.Priority.{Priority}
use Rattle.scx_dsq.specs.declared.heap.Item.{Item}
use Rattle.scx_dsq.specs.declared.links.Link.{Link}
use Rattle.scx_dsq.specs.declared.queue.Queue.{Queue}
use Rattle.scx_dsq.specs.declared.queues.Queues.TheInside.{Inside}
use Rattle.scx_dsq.specs.Entries.{same_sort}
use Rattle.scx_dsq.specs.Queues.{QueueState, entry_at}
use Rattle.scx_dsq.specs.Calls.{after_push, next_entry}
use Rattle.scx_dsq.specs.Links.{links_appended, links_linked}
use Rattle.scx_dsq.specs.Heaps.{HasSpots, KeepsOthers, IsCheap}
use Rattle.scx_dsq.specs.Arrays.{IsPaid}
use Rattle.scx_dsq.specs.Holdings.{Holds, entry_for}
use Rattle.scx_dsq.specs.Kept.{IsOfOneSort, by_links, by_heap, Keeps, mixes, CanLink, with_linked, CanInsert, Inserted, state_of, value_of, IsKept}
use Rattle.scx_dsq.proofs.LinkReads.{length-with_ahead, length-with_next}
use Rattle.scx_dsq.proofs.Holdings.{spots_elsewhere, holds_apart_with, holds_vtime}
use Rattle.scx_dsq.proofs.FormChanges.{can_link, form_linked, linked_agree, as_held, can_insert, form_inserted}
use Rattle.scx_dsq.proofs.Sound.{sound_with_task}
use Rattle.scx_dsq.proofs.QueueReads.{row_at, IsOpen, not_refused}
use Rattle.scx_dsq.proofs.Keeping.{IsChanged, changed_state, changed_arrays, changed_keeps}
use Rattle.scx_dsq.proofs.Costs.{paid}

-- ---- in order of arrival

appended_long : (links : List Link) (q : Queue) (t : ℕ) → length (links_appended links q.ends t) ≡ length links
appended_long links q t = length-with_next (set links t (record { ahead = q.ends.last; next = None })) q.ends.last (Some t) ∙ length-set links t (record { ahead = q.ends.last; next = None })

links_long : (rank : Rank) (links : List Link) (q : Queue) (t : ℕ) → length (links_linked rank links q.ends t) ≡ length links
links_long Fifo links q t = appended_long links q t
links_long Front links q t = length-with_ahead (set links t (record { ahead = None; next = q.ends.first })) q.ends.first (Some t) ∙ length-set links t (record { ahead = None; next = q.ends.first })
links_long (Vtime k) links q t = appended_long links q t

-- a queue that takes one in order of arrival takes one at its end
fits_fifo : (rank : Rank) (q : Queue) → same_sort rank Fifo ≡ true → mixes rank q ≡ false → mixes Fifo q ≡ false
fits_fifo Fifo q order fits = fits
fits_fifo Front q order fits = fits
fits_fifo (Vtime k) q order fits = absurd (cc)

-- an open queue takes the task at its end or at its front
pub can_push_in_order : (i : Inside) (k id t : ℕ) (rank : Rank) (q : Queue) → IsKept i → t < length i.entries.items → same_sort rank Fifo ≡ true → IsOpen i k id t rank q → CanLink i.links.items q t
can_push_in_order i k id t rank q h within order a =
    can_link (state_of i) i.links.items q t (next_entry (state_of i) id rank) h.sound.stamps within a.free (sym a.is) h.links (fits_fifo rank q order a.fits) (row_at i k q h a.inside a.read).tasks

module _ (i j : Inside) (k id t : ℕ) (rank : Rank) (q : Queue) (h : IsKept i) (within : t < length i.entries.items) (order : same_sort rank Fifo ≡ true) (a : IsOpen i k id t rank q)
    (c : IsChanged i j k t (with_linked rank q t) (Some (next_entry (state_of i) id rank)) (links_linked rank i.links.items q.ends t) i.spots.items (i.pushes + 1)) where
  -- the queues are kept
  pub pushed_in_order : IsKept j
  pushed_in_order =
      changed_keeps i j k t q (with_linked rank q t) (Some new) (links_linked rank i.links.items q.ends t) i.spots.items (i.pushes + 1) a.inside a.read refl c h within (links_long rank i.links.items q t) refl
      (λ other n. (rw a.free refl, ne_eqb id other (λ e. n (sym e ∙ sym a.is))))
      (λ other n u o w. linked_agree (state_of i) i.links.items q t new h.sound.stamps within a.free (sym a.is) h.links (fits_fifo rank q order a.fits) row.tasks rank other n u o w)
      (λ r n keeps. keeps.placed)
      (record {
        tasks = form_linked (state_of i) i.links.items q t new h.sound.stamps within a.free (sym a.is) h.links (fits_fifo rank q order a.fits) row.tasks rank refl order (λ u p e. h.sound.stamped u p e);
        room = omega (arith, row.room, length-set i.entries.items t (Some new));
        heap = row.heap;
        placed = row.placed;
      })
      (sound_with_task (state_of i) id t rank a.there a.none h.sound)
    where
      new : Entry
      new = next_entry (state_of i) id rank

      row : Keeps i.entries.items i.links.items i.spots.items q
      row = row_at i k q h a.inside a.read

  -- and their state is that after the push
  pub pushed_in_order_state : state_of j ≡ after_push (state_of i) id t rank
  pushed_in_order_state =
      changed_state i j k t q (with_linked rank q t) (Some (next_entry (state_of i) id rank)) (links_linked rank i.links.items q.ends t) i.spots.items (i.pushes + 1) a.inside a.read refl c ∙ rw (not_refused i k id t rank q a) refl

-- what the code leaves of the queues
pub entered_in_order : (i : Inside) (k id t : ℕ) (rank : Rank) (q new : Queue) (links linked : List Link) (entry : Entry) → entry ≡ next_entry (state_of i) id rank → links ≡ i.links.items → new ≡ with_linked rank q t → linked ≡ links_linked rank links q.ends t
    → IsChanged i (record {
      live = with_item i.live k new;
      order = i.order;
      spare = i.spare;
      entries = with_item i.entries t (Some entry);
      links = with_items i.links linked;
      spots = i.spots;
      guesses = i.guesses;
      pushes = i.pushes + 1;
    }) k t (with_linked rank q t) (Some (next_entry (state_of i) id rank)) (links_linked rank i.links.items q.ends t) i.spots.items (i.pushes + 1)
entered_in_order i k id t rank q new links linked entry made same is are = record {
  live = ap (λ x. set i.live.items k x) is;
  capacity = refl;
  order = refl;
  spare = refl;
  entries = ap (λ (p : Entry). set i.entries.items t (Some p)) made;
  links = with_items_is i.links linked long ∙ after;
  spots = refl;
  pushes = refl;
}
  where
    after : linked ≡ links_linked rank i.links.items q.ends t
    after = are ∙ ap (λ xs. links_linked rank xs q.ends t) same

    long : length linked ≡ i.links.len
    long = omega (arith, ap (λ (xs : List Link). length xs) after, links_long rank i.links.items q t, i.links.ok.0)

-- ---- by virtual time

-- an open queue takes the item into its heap
pub can_push_vtime : (i : Inside) (k id : ℕ) (x : Item) (q : Queue) → IsKept i → x.task < length i.entries.items → IsOpen i k id x.task (Vtime x.priority.key) q → CanInsert i.spots.items q x
can_push_vtime i k id x q h within a =
    let row = row_at i k q h a.inside a.read in
    can_insert (state_of i) i.links.items q x within a.free a.fits row.tasks i.spots.items h.spots row.room row.placed row.heap

-- the spots of a queue that the task doesn't enter
spots_beside : (s : QueueState) (links : List Link) (q r : Queue) (x : Item) (spots stood : List ℕ) → q.id ≢ r.id → entry_at s.entries x.task ≡ None → Holds s.entries q.id q.heap.items → IsOfOneSort s.entries links r
    → KeepsOthers (q.heap.items ++ x ∷ []) spots stood → HasSpots r.heap.items spots → HasSpots r.heap.items stood
spots_beside s links q r x spots stood n free h (by_links f empty) keeps stand = subst (λ items. HasSpots items stood) (sym empty) (λ k d e lt. absurd (omega arith))
spots_beside s links q r x spots stood n free h (by_heap other none) keeps stand =
    spots_elsewhere r.heap.items (q.heap.items ++ x ∷ []) spots stood (holds_apart_with s.entries q.id r.id q.heap.items r.heap.items x n free h other) keeps stand

module _ (i j : Inside) (k id : ℕ) (x : Item) (q new : Queue) (stood : List ℕ) (h : IsKept i) (within : x.task < length i.entries.items) (a : IsOpen i k id x.task (Vtime x.priority.key) q) (e : Inserted i.spots.items q x stood new)
    (late : x.priority.stamp ≡ i.pushes) (c : IsChanged i j k x.task new (Some (next_entry (state_of i) id (Vtime x.priority.key))) i.links.items stood (i.pushes + 1)) where
  -- the queues are kept
  pub pushed_vtime : IsKept j
  pushed_vtime =
      changed_keeps i j k x.task q new (Some entry) i.links.items stood (i.pushes + 1) a.inside a.read e.id c h within refl e.others.long
      (λ other n. (rw a.free refl, ne_eqb id other (λ same. n (sym same ∙ sym a.is))))
      (λ other n u o w. refl)
      (λ r n keeps. spots_beside (state_of i) i.links.items q r x i.spots.items stood (λ same. n (sym same)) a.free held keeps.tasks e.others keeps.placed)
      (record {
        tasks = subst (λ p. IsOfOneSort (set i.entries.items x.task (Some p)) i.links.items new) here (form_inserted (state_of i) i.links.items q x within a.free a.fits row.tasks i.spots.items stood new e);
        room = omega (arith, row.room, e.room, length-set i.entries.items x.task (Some entry));
        heap = e.heap;
        placed = e.placed;
      })
      (sound_with_task (state_of i) id x.task (Vtime x.priority.key) a.there a.none h.sound)
    where
      entry : Entry
      entry = next_entry (state_of i) id (Vtime x.priority.key)

      row : Keeps i.entries.items i.links.items i.spots.items q
      row = row_at i k q h a.inside a.read

      held : Holds i.entries.items q.id q.heap.items
      held = (as_held (state_of i) i.links.items q x.priority.key a.fits row.tasks).0

      here : entry_for q.id x.priority ≡ entry
      here = rw (a.is, late) refl

  -- and their state is that after the push
  pub pushed_vtime_state : state_of j ≡ after_push (state_of i) id x.task (Vtime x.priority.key)
  pushed_vtime_state =
      changed_state i j k x.task q new (Some (next_entry (state_of i) id (Vtime x.priority.key))) i.links.items stood (i.pushes + 1) a.inside a.read e.id c ∙ rw (not_refused i k id x.task (Vtime x.priority.key) q a) refl

  -- what the push costs in the heap it costs in all
  pub pushed_vtime_paid : (steps : ℕ) → IsCheap q.heap.items new.heap.items steps → IsPaid (value_of i) (value_of j) id steps
  pushed_vtime_paid steps cheap =
      let state = changed_state i j k x.task q new (Some (next_entry (state_of i) id (Vtime x.priority.key))) i.links.items stood (i.pushes + 1) a.inside a.read e.id c in
      let arrays = changed_arrays i j k x.task q new (Some (next_entry (state_of i) id (Vtime x.priority.key))) i.links.items stood (i.pushes + 1) a.inside a.read e.id c in
      let held = (as_held (state_of i) i.links.items q x.priority.key a.fits (row_at i k q h a.inside a.read).tasks).0 in
      subst (λ v. IsPaid (value_of i) (value_of j) v steps) a.is
      (paid i j k q new h a.inside a.read (ap (λ (s : QueueState). s.ids) state) arrays steps cheap (λ t p w is. absurd (both_ways (same_sort p.rank Fifo) (holds_vtime i.entries.items q.id q.heap.items held t p w) is)))

-- the entry that the code makes of the item is that of the next push
pub entry_made : (s : QueueState) (id : ℕ) (p : Priority) (e : Entry) → e ≡ entry_for id p → p.stamp ≡ s.pushes → e ≡ next_entry s id (Vtime p.key)
entry_made s id p e is late = rw (is, late) refl

-- what the code leaves of the queues
pub entered_vtime : (i : Inside) (k id : ℕ) (x : Item) (q new : Queue) (spots stood : List ℕ) (entry : Entry) → entry ≡ next_entry (state_of i) id (Vtime x.priority.key) → spots ≡ i.spots.items → Inserted spots q x stood new
    → IsChanged i (record {
      live = with_item i.live k new;
      order = i.order;
      spare = i.spare;
      entries = with_item i.entries x.task (Some entry);
      links = i.links;
      spots = with_items i.spots stood;
      guesses = i.guesses;
      pushes = i.pushes + 1;
    }) k x.task new (Some (next_entry (state_of i) id (Vtime x.priority.key))) i.links.items stood (i.pushes + 1)
entered_vtime i k id x q new spots stood entry made same e = record {
  live = refl;
  capacity = refl;
  order = refl;
  spare = refl;
  entries = ap (λ (p : Entry). set i.entries.items x.task (Some p)) made;
  links = refl;
  spots = with_items_is i.spots stood (omega (arith, e.others.long, ap (λ (xs : List ℕ). length xs) same, i.spots.ok.0));
  pushes = refl;
}
