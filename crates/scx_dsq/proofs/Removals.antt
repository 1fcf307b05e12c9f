-- A removal keeps the queues in step with where the tasks wait.
use Rattle.std.proofs.Common.{◌≡◌, ◌≢◌, ℕ, true, ◌<◌, List, length, get_or, set, Option, Some, None, refl, sym, ap, ◌∙◌, subst, arith}
use Rattle.std.specs.Vec.{with_item, with_items}
use Rattle.std.proofs.lemmas.Bool.{ne_eqb}
use Rattle.std.proofs.lemmas.List.{with_items_is, length-set, length-map, get_or_default}
use Rattle.scx_dsq.specs.declared.entries.Rank.{Rank}
use Rattle.scx_dsq.specs.declared.entries.Rank.TheVariants.{Fifo, Front, Vtime}
use Rattle.scx_dsq.specs.declared.entries.Entry.{Entry}
use Rattle.scx_dsq.specs.declared.links.Link.{Link}
use Rattle.scx_dsq.specs.declared.queue.Queue.{Queue}
use Rattle.scx_dsq.specs.declared.queues.Queues.TheInside.{Inside}
use Rattle.scx_dsq.specs.Entries.{same_sort, keyless}
use Rattle.scx_dsq.specs.Queues.{QueueState, IsQueueAt, Waits, IsFront, entry_at, entry_of}
use Rattle.scx_dsq.specs.Calls.{without_task}
use Rattle.scx_dsq.specs.Links.{link_at, with_ahead, links_unlinked}
use Rattle.scx_dsq.specs.Heaps.{HasSpots, KeepsOthers, IsCheap}
use Rattle.scx_dsq.specs.Arrays.{IsPaid}
use Rattle.scx_dsq.specs.Holdings.{Holds}
use Rattle.scx_dsq.specs.Kept.{IsOfOneSort, by_links, by_heap, Keeps, CanLeave, Unlinked, Left, front_in, sort_in, state_of, value_of, IsKept}
use Rattle.scx_dsq.proofs.Orders.{alike_arrival}
use Rattle.scx_dsq.proofs.Standing.{waits_below}
use Rattle.scx_dsq.proofs.LinkReads.{length-with_ahead, length-with_next}
use Rattle.scx_dsq.proofs.Holdings.{spots_elsewhere, holds_apart}
use Rattle.scx_dsq.proofs.FormChanges.{can_leave, left_held, form_unlinked, unlinked_agree, form_taken_out}
use Rattle.scx_dsq.proofs.Fronts.{front_is}
use Rattle.scx_dsq.proofs.Forms.{form_front, front_answer, front_alike, front_ahead}
use Rattle.scx_dsq.proofs.Sound.{sound_without_task}
use Rattle.scx_dsq.proofs.QueueReads.{row_at}
use Rattle.scx_dsq.proofs.Keeping.{id_at, IsChanged, changed_state, changed_arrays, changed_keeps}
use Rattle.scx_dsq.proofs.Costs.{paid}

links_long : (links : List Link) (t : ℕ) → length (links_unlinked links t) ≡ length links
links_long links t =
    length-with_next (with_ahead links (link_at links t).next (link_at links t).ahead) (link_at links t).ahead (link_at links t).next
    ∙ length-with_ahead links (link_at links t).next (link_at links t).ahead

-- the spots of a queue that the task doesn't leave
spots_beside : (s : QueueState) (links : List Link) (q r : Queue) (spots stood : List ℕ) → q.id ≢ r.id → Holds s.entries q.id q.heap.items → IsOfOneSort s.entries links r
    → KeepsOthers q.heap.items spots stood → HasSpots r.heap.items spots → HasSpots r.heap.items stood
spots_beside s links q r spots stood n h (by_links f empty) keeps stand = subst (λ items. HasSpots items stood) (sym empty) (λ k d e lt. absurd (omega arith))
spots_beside s links q r spots stood n h (by_heap other none) keeps stand =
    spots_elsewhere r.heap.items q.heap.items spots stood (holds_apart s.entries q.id r.id q.heap.items r.heap.items n h other) keeps stand

-- a task that waits, and its queue
pub record IsWaiting (i : Inside) (k t : ℕ) (p : Entry) (q : Queue) : Type 0 where
  pub inside : k < length i.live.items
  pub read : q ≡ get_or i.live.items k q
  pub is : q.id ≡ p.queue
  pub waits : entry_at i.entries.items t ≡ Some p

-- a task with an entry in the queue that was read waits there
pub waiting : (i : Inside) (k t : ℕ) (p : Entry) (q : Queue) → IsQueueAt (state_of i) k p.queue → entry_of (state_of i) t ≡ Some p → q ≡ get_or i.live.items k q → IsWaiting i k t p q
waiting i k t p q at waits read = record {
  inside = let within = at.0 in omega (arith, length-map i.live.items (λ (x : Queue). x.id));
  read = read;
  is = ap (λ (x : Queue). x.id) read ∙ sym (id_at i.live.items k q) ∙ at.1 q.id;
  waits = waits;
}

-- and can leave it
pub can_remove : (i : Inside) (k t : ℕ) (p : Entry) (q : Queue) → IsKept i → IsWaiting i k t p q → CanLeave p.rank i.links.items i.spots.items q t
can_remove i k t p q h w =
    let row = row_at i k q h w.inside w.read in
    can_leave (state_of i) i.links.items q t p h.sound.stamps (w.waits, sym w.is) h.links p.rank i.spots.items refl row.placed row.heap row.tasks

-- what is known of the queue and of the others after a task left by its rank
record IsLeft (i : Inside) (t : ℕ) (p : Entry) (q new : Queue) (linked : List Link) (stood : List ℕ) : Type 0 where
  id : new.id ≡ q.id
  links : length linked ≡ length i.links.items
  spots : length stood ≡ length i.spots.items
  agree : (other : ℕ) → other ≢ q.id → (u : ℕ) (o : Entry) → (entry_at i.entries.items u ≡ Some o) × (o.queue ≡ other) → link_at linked u ≡ link_at i.links.items u
  elsewhere : (r : Queue) → r.id ≢ q.id → Keeps i.entries.items i.links.items i.spots.items r → HasSpots r.heap.items stood
  keeps : Keeps (set i.entries.items t None) linked stood new

module _ (i : Inside) (k t : ℕ) (p : Entry) (q : Queue) (h : IsKept i) (w : IsWaiting i k t p q) where
  row : Keeps i.entries.items i.links.items i.spots.items q
  row = row_at i k q h w.inside w.read

  left_unlinked : (new : Queue) (linked : List Link) (stood : List ℕ) → same_sort p.rank Fifo ≡ true → Unlinked i.links.items i.spots.items q t linked stood new → IsLeft i t p q new linked stood
  left_unlinked new linked stood is e = rw (e.queue, e.threads, e.stays) (record {
    id = refl;
    links = links_long i.links.items t;
    spots = refl;
    agree = λ other n u o v. unlinked_agree (state_of i) i.links.items q t p h.sound.stamps (w.waits, sym w.is) h.links is row.tasks other n u o v;
    elsewhere = λ r n keeps. keeps.placed;
    keeps = record {
      tasks = form_unlinked (state_of i) i.links.items q t p h.sound.stamps (w.waits, sym w.is) h.links is row.tasks;
      room = omega (arith, row.room, length-set {A = Option Entry} i.entries.items t None);
      heap = row.heap;
      placed = row.placed;
    };
  })

  left_by : (rank : Rank) (new : Queue) (linked : List Link) (stood : List ℕ) → p.rank ≡ rank → Left rank i.links.items i.spots.items q t linked stood new → IsLeft i t p q new linked stood
  left_by Fifo new linked stood is e = left_unlinked new linked stood (ap (λ r. same_sort r Fifo) is) e
  left_by Front new linked stood is e = left_unlinked new linked stood (ap (λ r. same_sort r Fifo) is) e
  left_by (Vtime key) new linked stood is e = rw e.1 (record {
    id = e.0.id;
    links = refl;
    spots = e.0.others.long;
    agree = λ other n u o v. refl;
    elsewhere = λ r n keeps. spots_beside (state_of i) i.links.items q r i.spots.items stood (λ same. n (sym same)) (left_held (state_of i) i.links.items q t p h.sound.stamps (w.waits, sym w.is) h.links key is row.tasks).0 keeps.tasks e.0.others keeps.placed;
    keeps = record {
      tasks = form_taken_out (state_of i) i.links.items q t p h.sound.stamps (w.waits, sym w.is) h.links key i.spots.items stood new is row.tasks e.0;
      room = omega (arith, row.room, e.0.room, length-set {A = Option Entry} i.entries.items t None);
      heap = e.0.heap;
      placed = e.0.placed;
    };
  })

  module _ (j : Inside) (new : Queue) (linked : List Link) (stood : List ℕ) (e : Left p.rank i.links.items i.spots.items q t linked stood new) (c : IsChanged i j k t new None linked stood i.pushes) where
    -- the queue keeps its id
    pub removed_id : new.id ≡ q.id
    removed_id = (left_by p.rank new linked stood refl e).id

    -- the queues are kept
    pub removed_keeps : IsKept j
    removed_keeps =
        let l = left_by p.rank new linked stood refl e in
        changed_keeps i j k t q new None linked stood i.pushes w.inside w.read l.id c h (waits_below i.entries.items t p w.waits) l.links l.spots
        (λ other n. (rw w.waits (ne_eqb p.queue other (λ e. n (sym e ∙ sym w.is))), refl))
        l.agree l.elsewhere l.keeps (sound_without_task (state_of i) t h.sound)

    -- and their state is that without the task
    pub removed_state : state_of j ≡ without_task (state_of i) t
    removed_state = changed_state i j k t q new None linked stood i.pushes w.inside w.read (left_by p.rank new linked stood refl e).id c

    -- what the removal costs in the heap it costs in all, if it costs nothing in FIFO order
    pub removed_paid : (steps : ℕ) → IsCheap q.heap.items new.heap.items steps → (same_sort p.rank Fifo ≡ true → steps ≡ 0) → IsPaid (value_of i) (value_of j) p.queue steps
    removed_paid steps cheap free =
        let id = removed_id in
        let state = changed_state i j k t q new None linked stood i.pushes w.inside w.read id c in
        let arrays = changed_arrays i j k t q new None linked stood i.pushes w.inside w.read id c in
        subst (λ v. IsPaid (value_of i) (value_of j) v steps) w.is (paid i j k q new h w.inside w.read (ap (λ (s : QueueState). s.ids) state) arrays steps cheap fifo)
      where
        fifo : (u : ℕ) (o : Entry) → Waits (state_of i) q.id u o → same_sort o.rank Fifo ≡ true → steps ≡ 0
        fifo u o there is = free (alike_arrival o.rank p.rank (h.sound.sorts u t o p there.0 w.waits (there.1 ∙ w.is)) is)

  -- what the code leaves of the queues
  pub left : (new : Queue) (links linked : List Link) (spots stood : List ℕ) → links ≡ i.links.items → spots ≡ i.spots.items → Left p.rank links spots q t linked stood new
      → (Left p.rank i.links.items i.spots.items q t linked stood new)
      × IsChanged i (record { live = with_item i.live k new; order = i.order; spare = i.spare; entries = with_item i.entries t None; links = with_items i.links linked; spots = with_items i.spots stood; guesses = i.guesses; pushes = i.pushes }) k t new None linked stood i.pushes
  left new links linked spots stood same alike e =
      let here : Left p.rank i.links.items i.spots.items q t linked stood new = rw (same, alike) at e in
      let l = left_by p.rank new linked stood refl here in (
        here,
        record {
          live = refl;
          capacity = refl;
          order = refl;
          spare = refl;
          entries = refl;
          links = with_items_is i.links linked (omega (arith, l.links, i.links.ok.0));
          spots = with_items_is i.spots stood (omega (arith, l.spots, i.spots.ok.0));
          pushes = refl;
        },
      )

-- ---- the front leaves

-- what may leave by a rank may leave by another one of its sort
pub like_leave : (r s : Rank) (links : List Link) (spots : List ℕ) (q : Queue) (t : ℕ) → same_sort r s ≡ true → CanLeave r links spots q t → CanLeave s links spots q t
like_leave Fifo Fifo links spots q t alike can = can
like_leave Fifo Front links spots q t alike can = can
like_leave Fifo (Vtime k) links spots q t alike can = absurd (cc)
like_leave Front Fifo links spots q t alike can = can
like_leave Front Front links spots q t alike can = can
like_leave Front (Vtime k) links spots q t alike can = absurd (cc)
like_leave (Vtime l) Fifo links spots q t alike can = absurd (cc)
like_leave (Vtime l) Front links spots q t alike can = absurd (cc)
like_leave (Vtime l) (Vtime k) links spots q t alike can = can

-- what has left by a rank has left by another one of its sort
pub like_left : (r s : Rank) (links linked : List Link) (spots stood : List ℕ) (q new : Queue) (t : ℕ) → same_sort r s ≡ true → Left s links spots q t linked stood new → Left r links spots q t linked stood new
like_left Fifo Fifo links linked spots stood q new t alike left = left
like_left Fifo Front links linked spots stood q new t alike left = left
like_left Fifo (Vtime k) links linked spots stood q new t alike left = absurd (cc)
like_left Front Fifo links linked spots stood q new t alike left = left
like_left Front Front links linked spots stood q new t alike left = left
like_left Front (Vtime k) links linked spots stood q new t alike left = absurd (cc)
like_left (Vtime l) Fifo links linked spots stood q new t alike left = absurd (cc)
like_left (Vtime l) Front links linked spots stood q new t alike left = absurd (cc)
like_left (Vtime l) (Vtime k) links linked spots stood q new t alike left = left

-- a rank with the key 0 is of its sort
pub alike_keyless : (r s : Rank) → s ≡ keyless r → same_sort r s ≡ true
alike_keyless Fifo s e = rw e refl
alike_keyless Front s e = rw e refl
alike_keyless (Vtime k) s e = rw e refl

-- the front of a queue, and a rank of its sort
pub record IsLeaving (i : Inside) (k t : ℕ) (p : Entry) (q : Queue) (rank : Rank) : Type 0 where
  pub waiting : IsWaiting i k t p q
  pub alike : same_sort p.rank rank ≡ true
  pub fifo : same_sort p.rank Fifo ≡ true → same_sort rank Fifo ≡ true
  pub ahead : same_sort rank Fifo ≡ true → (link_at i.links.items t).ahead ≡ None
  pub can : CanLeave rank i.links.items i.spots.items q t

-- the front of the queue that was read, by the rank that the queue tells
pub leaving : (i : Inside) (k id t : ℕ) (q r : Queue) (rank : Rank) → IsKept i → IsQueueAt (state_of i) k id → (f : IsFront (state_of i) id t) → q ≡ get_or i.live.items k q → r ≡ get_or i.live.items k r → rank ≡ sort_in r → IsLeaving i k t f.entry q rank
leaving i k id t q r rank h at f read again told = record {
  waiting = w;
  alike = alike;
  fifo = alike_arrival f.entry.rank rank alike;
  ahead = λ e. front_ahead (state_of i) i.links.items q t f.entry here front (subst (λ r. same_sort r Fifo ≡ true) same e) row.tasks;
  can = like_leave f.entry.rank rank i.links.items i.spots.items q t alike (can_remove i k t f.entry q h w);
}
  where
    w : IsWaiting i k t f.entry q
    w = waiting i k t f.entry q (subst (λ v. IsQueueAt (state_of i) k v) (sym f.waits.1) at) f.waits.0 read

    row : Keeps i.entries.items i.links.items i.spots.items q
    row = row_at i k q h w.inside read

    one : r ≡ q
    one = again ∙ get_or_default i.live.items k r q w.inside ∙ sym read

    same : rank ≡ sort_in q
    same = told ∙ ap (λ (x : Queue). sort_in x) one

    is : q.id ≡ id
    is = w.is ∙ f.waits.1

    here : (entry_at i.entries.items t ≡ Some f.entry) × (f.entry.queue ≡ q.id)
    here = (f.waits.0, sym w.is)

    front : front_in q ≡ Some t
    front =
        front_answer (state_of i) q.id (front_in q) (form_front (state_of i) i.links.items q h.sound.stamps row.heap row.tasks)
        ∙ front_is (state_of i) q.id t (subst (λ v. IsFront (state_of i) v t) (sym is) f)

    alike : same_sort f.entry.rank rank ≡ true
    alike = rw same (front_alike (state_of i) i.links.items q t f.entry here front row.tasks)
