-- One queue and one task's entry change, and the rest is kept.
use Rattle.std.proofs.Common.{◌≡◌, ◌≢◌, ℕ, zero, suc, ◌<◌, false, List, [], ◌∷◌, length, get_or, set, Option, vec_capacity, refl, sym, ap, ◌∙◌, subst, arith, ◌⊎◌, inl, inr}
use Rattle.std.proofs.lemmas.Bool.{cases_eq, cases_order}
use Rattle.std.proofs.lemmas.List.{get_or-set_same, get_or-set_other, length-set, length-map, map-set, get_or_default}
use Rattle.std.proofs.lemmas.List.Elements.{All-weaker}
use Rattle.scx_dsq.specs.declared.entries.Entry.{Entry}
use Rattle.scx_dsq.specs.declared.links.Link.{Link}
use Rattle.scx_dsq.specs.declared.queue.Queue.{Queue}
use Rattle.scx_dsq.specs.declared.queues.Queues.TheInside.{Inside}
use Rattle.scx_dsq.specs.Queues.{Entries, QueueState, entry_at, is_in}
use Rattle.scx_dsq.specs.Laws.{IsSound}
use Rattle.scx_dsq.specs.Links.{link_at, In}
use Rattle.scx_dsq.specs.Heaps.{HasSpots}
use Rattle.scx_dsq.specs.Kept.{ids_of, arrays_of, Keeps, IsSpare, state_of, IsKept}
use Rattle.scx_dsq.proofs.FormChanges.{form_others}

-- ---- the ids stay

ids_set : (live : List Queue) (k : ℕ) (new : Queue) → ((d : Queue) → (get_or live k d).id ≡ new.id) → ids_of (set live k new) ≡ ids_of live
ids_set [] k new e = refl
ids_set (q ∷ live) zero new e = ap (λ id. id ∷ ids_of live) (sym (e q))
ids_set (q ∷ live) (suc k) new e = ap (λ ids. q.id ∷ ids) (ids_set live k new e)

-- the id at a position is that of the queue there
pub id_at : (live : List Queue) (k : ℕ) (q : Queue) → get_or (ids_of live) k q.id ≡ (get_or live k q).id
id_at [] k q = refl
id_at (x ∷ live) zero q = refl
id_at (x ∷ live) (suc k) q = id_at live k q

-- states with the same parts are the same
pub same_state : (room other_room : ℕ) (ids other_ids : List ℕ) (entries other_places : Entries) (pushes other_pushes : ℕ) → room ≡ other_room → ids ≡ other_ids → entries ≡ other_places → pushes ≡ other_pushes
    → ◌≡◌ {A = QueueState} (record { room = room; ids = ids; entries = entries; pushes = pushes }) (record { room = other_room; ids = other_ids; entries = other_places; pushes = other_pushes })
same_state room other_room ids other_ids entries other_places pushes other_pushes e f g h = rw (e, f, g, h) refl

-- no two queues have one id
apart : (i : Inside) → IsKept i → (j k : ℕ) (q : Queue) → j ≢ k → j < length i.live.items → k < length i.live.items → (get_or i.live.items j q).id ≢ (get_or i.live.items k q).id
apart i h j k q n in_j in_k same = go (cases_order j k)
  where
    one : get_or (ids_of i.live.items) j q.id ≡ get_or (ids_of i.live.items) k q.id
    one = id_at i.live.items j q ∙ same ∙ sym (id_at i.live.items k q)

    go : (j ≡ k) ⊎ ((j < k) ⊎ (k < j)) → ⊥
    go (inl e) = n e
    go (inr (inl lt)) = h.sound.queues.distinct j k q.id lt (omega (arith, length-map i.live.items (λ (x : Queue). x.id))) one
    go (inr (inr lt)) = h.sound.queues.distinct k j q.id lt (omega (arith, length-map i.live.items (λ (x : Queue). x.id))) (sym one)

-- ---- a task's entry changes in one queue

-- one queue, one task's entry, the links and the spots are other ones, and the rest is as before
pub record IsChanged (i j : Inside) (k t : ℕ) (new : Queue) (entry : Option Entry) (linked : List Link) (stood : List ℕ) (count : ℕ) : Type 0 where
  pub live : j.live.items ≡ set i.live.items k new
  pub order : j.order ≡ i.order
  pub capacity : vec_capacity j.live ≡ vec_capacity i.live
  pub spare : j.spare ≡ i.spare
  pub entries : j.entries.items ≡ set i.entries.items t entry
  pub links : j.links.items ≡ linked
  pub spots : j.spots.items ≡ stood
  pub pushes : j.pushes ≡ count

module _ (i j : Inside) (k t : ℕ) (q queue : Queue) (entry : Option Entry) (links : List Link) (spots : List ℕ) (pushes : ℕ) (in_live : k < length i.live.items) (read : q ≡ get_or i.live.items k q) (id : queue.id ≡ q.id)
    (c : IsChanged i j k t queue entry links spots pushes) where
  same_ids : ids_of j.live.items ≡ ids_of i.live.items
  same_ids = ap ids_of c.live ∙ ids_set i.live.items k queue (λ d. ap (λ (x : Queue). x.id) (get_or_default i.live.items k d q in_live ∙ sym read) ∙ sym id)

  -- the state has that entry, and else what it had
  pub changed_state : state_of j ≡ record { room = (state_of i).room; ids = (state_of i).ids; entries = set i.entries.items t entry; pushes = pushes }
  changed_state =
      same_state _ _ _ _ _ _ _ _ (omega (arith, ap (λ (qs : List Queue). length qs) c.live, length-set i.live.items k queue, ap (λ v. length v.items) c.spare))
      same_ids c.entries c.pushes

  -- the arrays are the old ones but for that queue's
  pub changed_arrays : arrays_of j.live.items ≡ set (arrays_of i.live.items) k queue.heap.items
  changed_arrays = ap arrays_of c.live ∙ map-set (λ (x : Queue). x.heap.items) i.live.items k queue

  -- the queues are kept, if this one is and the others take no notice
  pub changed_keeps : IsKept i → t < length i.entries.items → length links ≡ length i.links.items → length spots ≡ length i.spots.items
      → ((id : ℕ) → id ≢ q.id → (is_in id (entry_at i.entries.items t) ≡ false) × (is_in id entry ≡ false))
      → ((id : ℕ) → id ≢ q.id → (u : ℕ) (o : Entry) → In i.entries.items id u o → link_at links u ≡ link_at i.links.items u)
      → ((r : Queue) → r.id ≢ q.id → Keeps i.entries.items i.links.items i.spots.items r → HasSpots r.heap.items spots)
      → Keeps (set i.entries.items t entry) links spots queue
      → IsSound (record { room = (state_of i).room; ids = (state_of i).ids; entries = set i.entries.items t entry; pushes = pushes })
      → IsKept j
  changed_keeps h in_places long as_long only agree elsewhere keeps sound = record {
    sound = subst IsSound (sym changed_state) sound;
    live = rw (c.entries, c.links, c.spots, c.live) (λ m d lt. row_of m d (omega (arith, lt, length-set i.live.items k queue)) (cases_eq m k));
    order = rw (same_ids, c.order) h.order;
    spare = rw (c.entries, c.spare) (All-weaker (IsSpare i.entries.items) (IsSpare (set i.entries.items t entry)) (λ r w. (w.0, omega (arith, w.1, length-set i.entries.items t entry))) i.spare.items h.spare);
    room = omega (arith, h.room, c.capacity, ap (λ (qs : List Queue). length qs) c.live, length-set i.live.items k queue, ap (λ v. length v.items) c.spare);
    orders = omega (arith, h.orders, ap (λ v. vec_capacity v) c.order, ap (λ v. length v.items) c.order, ap (λ v. length v.items) c.spare);
    links = omega (arith, h.links, long, ap (λ (xs : List Link). length xs) c.links, ap (λ (xs : List (Option Entry)). length xs) c.entries, length-set i.entries.items t entry);
    spots = omega (arith, h.spots, as_long, ap (λ (xs : List ℕ). length xs) c.spots, ap (λ (xs : List (Option Entry)). length xs) c.entries, length-set i.entries.items t entry);
  }
    where
      row_of : (m : ℕ) (d : Queue) → m < length i.live.items → (m ≡ k) ⊎ (m ≡ k → ⊥) → Keeps (set i.entries.items t entry) links spots (get_or (set i.live.items k queue) m d)
      row_of m d lt (inl e) = subst (Keeps (set i.entries.items t entry) links spots) (rw e (sym (get_or-set_same i.live.items k queue d in_live))) keeps
      row_of m d lt (inr n) =
          let old = h.live m d lt in
          let other : (get_or i.live.items m d).id ≢ q.id = λ same. apart i h m k d n lt in_live (same ∙ ap (λ (x : Queue). x.id) (read ∙ get_or_default i.live.items k q d in_live)) in
          let out = only (get_or i.live.items m d).id other in
          subst (Keeps (set i.entries.items t entry) links spots) (sym (get_or-set_other i.live.items k m queue d n)) (record {
            tasks = form_others i.entries.items (get_or i.live.items m d).id t entry in_places out.0 out.1 i.links.items links (get_or i.live.items m d) refl (agree (get_or i.live.items m d).id other) old.tasks;
            room = omega (arith, old.room, length-set i.entries.items t entry);
            heap = old.heap;
            placed = elsewhere (get_or i.live.items m d) other old;
          })
