-- A heap holds its queue, whatever task's entry changes, and its first item is the queue's front.
use Rattle.std.proofs.Common.{◌≡◌, ◌≢◌, ℕ, zero, suc, ◌+◌, ◌<◌, ◌≤◌, true, false, ◌==◌, ◌⊎◌, inl, inr, List, [], ◌∷◌, ◌++◌, length, set, slice_index_or, All, Contains, count_by, Option, Some, None, MatchOption, if◌then◌else◌, refl, sym, ap, ◌∙◌, subst, arith}
use Rattle.std.specs.List.{list_any}
use Rattle.std.specs.List.Sorted.{IsPermutation}
use Rattle.std.proofs.lemmas.Bool.{both_ways, ne_eqb, or_from, cases_eq}
use Rattle.std.proofs.lemmas.List.{get_or_default, get_or-set_same, length_push}
use Rattle.std.proofs.lemmas.List.Elements.{All-weaker, All-append, All-cons, All-nil, Contains-append_left, Contains-append_right}
use Rattle.std.proofs.lemmas.List.Folds.{list_any_none, list_any-append}
use Rattle.std.proofs.lemmas.List.Sorted.{All-permutation, Contains-permutation, length_permutation}
use Rattle.scx_dsq.specs.declared.entries.Entry.{Entry}
use Rattle.scx_dsq.specs.declared.entries.Rank.TheVariants.{Fifo}
use Rattle.scx_dsq.specs.declared.heap.Item.{Item}
use Rattle.scx_dsq.specs.Entries.{is_before, same_sort}
use Rattle.scx_dsq.specs.Queues.{Entries, QueueState, entry_at, is_in, Waits, IsFront}
use Rattle.scx_dsq.specs.Laws.{HasOwnStamps}
use Rattle.scx_dsq.specs.Links.{In}
use Rattle.scx_dsq.specs.Heaps.{comes_before, parent, IsBehind, IsHeap, HasSpots, IsAbsent, IsIn, KeepsOthers, first_item}
use Rattle.scx_dsq.specs.Holdings.{entry_for, Holds}
use Rattle.scx_dsq.proofs.Heaps.{itself, not_before, not-trans}
use Rattle.scx_dsq.proofs.HeapEdits.{absent_is_apart}
use Rattle.scx_dsq.proofs.Fronts.{NobodyIn, nobody_counts}
use Rattle.scx_dsq.proofs.Orders.{by_stamps}
use Rattle.scx_dsq.proofs.Standing.{is_in_from, another, count-set, Changed, this, other, changed, unchanged, same_entry}

-- ---- tasks in an array

-- an item of the array, and its task
pub record Found (items : List Item) (t : ℕ) : Type 0 where
  pub item : Item
  pub contained : Contains items item
  pub is : item.task ≡ t

pub found : (items : List Item) (t : ℕ) → IsIn items t → Found items t
found [] t h = let inside = h.inside in absurd (omega arith)
found (x ∷ xs) t h =
    let item = slice_index_or (x ∷ xs) h.position x in
    record { item = item; contained = (h.position, h.inside, get_or_default (x ∷ xs) h.position item x h.inside); is = h.there x }

stands_in : (items : List Item) (t : ℕ) (x : Item) → Contains items x → x.task ≡ t → IsIn items t
stands_in items t x (k, lt, e) is = record { position = k; inside = lt; there = λ d. ap (λ (y : Item). y.task) (get_or_default items k d x lt ∙ e) ∙ is }

in_moved : (items new : List Item) (t : ℕ) → IsPermutation items new → IsIn items t → IsIn new t
in_moved items new t moved h = let f = found items t h in stands_in new t f.item (Contains-permutation items new f.item moved f.contained) f.is

-- ---- who waits there

-- the entry of a task that waits there is its item's
pub holds_entry : (entries : Entries) (id : ℕ) (items : List Item) (t : ℕ) (p : Entry) (x : Item) → Holds entries id items → entry_at entries t ≡ Some p → Contains items x → x.task ≡ t → entry_for id x.priority ≡ p
holds_entry entries id items t p x h e (k, lt, same) is =
    let there : entry_at entries x.task ≡ Some (entry_for id x.priority) = subst (λ (y : Item). entry_at entries y.task ≡ Some (entry_for id y.priority)) same (h.there k x lt) in
    same_entry entries t (entry_for id x.priority) p (subst (λ v. entry_at entries v ≡ Some (entry_for id x.priority)) is there) e

-- whoever waits there waits by virtual time
pub holds_vtime : (entries : Entries) (id : ℕ) (items : List Item) → Holds entries id items → (t : ℕ) (p : Entry) → In entries id t p → same_sort p.rank Fifo ≡ false
holds_vtime entries id items h t p w =
    let f = found items t (h.all t p w) in
    subst (λ (q : Entry). same_sort q.rank Fifo ≡ false) (holds_entry entries id items t p f.item h w.0 f.contained f.is) refl

-- a task that doesn't wait there isn't in the array
pub holds_absent : (entries : Entries) (id : ℕ) (items : List Item) (t : ℕ) → is_in id (entry_at entries t) ≡ false → Holds entries id items → IsAbsent items t
holds_absent entries id items t out h = list_any_none (λ (x : Item). x.task == t) items (λ k d lt. ne_eqb (slice_index_or items k d).task t (another entries id t (slice_index_or items k d).task (entry_for id (slice_index_or items k d).priority) out (h.there k d lt) refl))

-- an array with nobody holds a queue in which nobody waits
pub holds_empty : (s : QueueState) (id : ℕ) → NobodyIn s id → Holds s.entries id []
holds_empty s id nobody = record {
  there = All-nil _;
  all = λ t p w. absurd (nobody t p w);
  count = sym (nobody_counts s id nobody);
}

-- ---- a change of a task that isn't in the queue, before or after

-- the array still holds the queue
pub holds_others : (entries : Entries) (id : ℕ) (items : List Item) (t : ℕ) (new : Option Entry) → t < length entries
    → is_in id (entry_at entries t) ≡ false → is_in id new ≡ false → Holds entries id items → Holds (set entries t new) id items
holds_others entries id items t new within out stays h = record {
  there = All-weaker (λ (x : Item). entry_at entries x.task ≡ Some (entry_for id x.priority)) (λ (x : Item). entry_at (set entries t new) x.task ≡ Some (entry_for id x.priority))
      (λ x w. unchanged entries t new x.task (entry_for id x.priority) (another entries id t x.task (entry_for id x.priority) out w refl) w) items h.there;
  all = λ u p w. find u p w.1 (changed entries t new u p w.0);
  count = h.count ∙ same_count (count-set entries id t new within);
}
  where
    find : (u : ℕ) (p : Entry) → p.queue ≡ id → Changed entries t new u p → IsIn items u
    find u p q (this same e) = absurd (both_ways (is_in id new) stays (subst (λ v. is_in id v ≡ true) (sym e) (is_in_from id p q)))
    find u p q (other n e) = h.all u p (e, q)

    same_count : count_by (is_in id) (set entries t new) + (if is_in id (entry_at entries t) then 1 else 0) ≡ count_by (is_in id) entries + (if is_in id new then 1 else 0)
        → count_by (is_in id) entries ≡ count_by (is_in id) (set entries t new)
    same_count e = let f : count_by (is_in id) (set entries t new) + 0 ≡ count_by (is_in id) entries + 0 = rw (out, stays) at e in omega (arith, f)

-- ---- a push

-- the items with one more hold the queue with its task
pub holds_with : (entries : Entries) (id : ℕ) (items new : List Item) (x : Item) → x.task < length entries → entry_at entries x.task ≡ None
    → IsPermutation (items ++ x ∷ []) new → Holds entries id items → Holds (set entries x.task (Some (entry_for id x.priority))) id new
holds_with entries id items new x within free moved h = record {
  there = All-permutation There (items ++ x ∷ []) new moved (All-append There items (x ∷ []) (All-weaker (λ (y : Item). entry_at entries y.task ≡ Some (entry_for id y.priority)) There still items h.there) (All-cons There x [] here (All-nil _)));
  all = λ u p w. in_moved (items ++ x ∷ []) new u moved (find u p w.1 (changed entries x.task (Some (entry_for id x.priority)) u p w.0));
  count = more (count-set entries id x.task (Some (entry_for id x.priority)) within);
}
  where
    There : Item → Type 0
    There y = entry_at (set entries x.task (Some (entry_for id x.priority))) y.task ≡ Some (entry_for id y.priority)

    out : is_in id (entry_at entries x.task) ≡ false
    out = rw free refl

    still : (y : Item) → entry_at entries y.task ≡ Some (entry_for id y.priority) → There y
    still y w = unchanged entries x.task (Some (entry_for id x.priority)) y.task (entry_for id y.priority) (another entries id x.task y.task (entry_for id y.priority) out w refl) w

    here : There x
    here = get_or-set_same entries x.task (Some (entry_for id x.priority)) None within

    find : (u : ℕ) (p : Entry) → p.queue ≡ id → Changed entries x.task (Some (entry_for id x.priority)) u p → IsIn (items ++ x ∷ []) u
    find u p q (this same e) = stands_in (items ++ x ∷ []) u x (Contains-append_right items (x ∷ []) x (0, (omega arith), refl)) (sym same)
    find u p q (other n e) = let f = found items u (h.all u p (e, q)) in stands_in (items ++ x ∷ []) u f.item (Contains-append_left items (x ∷ []) f.item f.contained) f.is

    more : count_by (is_in id) (set entries x.task (Some (entry_for id x.priority))) + (if is_in id (entry_at entries x.task) then 1 else 0) ≡ count_by (is_in id) entries + (if is_in id (Some (entry_for id x.priority)) then 1 else 0)
        → length new ≡ count_by (is_in id) (set entries x.task (Some (entry_for id x.priority)))
    more e =
        let f : count_by (is_in id) (set entries x.task (Some (entry_for id x.priority))) + 0 ≡ count_by (is_in id) entries + 1 = rw (out, is_in_from id (entry_for id x.priority) refl) at e in
        omega (arith, f, h.count, length_permutation (items ++ x ∷ []) new moved, length_push items x)

-- ---- a removal

-- the items without one hold the queue without its task
pub holds_without : (entries : Entries) (id : ℕ) (items new : List Item) (x : Item) → x.task < length entries → IsPermutation items (x ∷ new) → IsAbsent new x.task
    → Holds entries id items → Holds (set entries x.task None) id new
holds_without entries id items new x within moved gone h = record {
  there = λ k d lt. unchanged entries x.task None (slice_index_or new k d).task (entry_for id (slice_index_or new k d).priority) (absent_is_apart new x.task k d lt gone) (still_there k d lt);
  all = λ u p w. find u p w.1 (changed entries x.task None u p w.0);
  count = fewer (count-set entries id x.task None within);
}
  where
    There : Item → Type 0
    There y = entry_at entries y.task ≡ Some (entry_for id y.priority)

    all_there : All There (x ∷ new)
    all_there = All-permutation There items (x ∷ new) moved h.there

    still_there : (k : ℕ) (d : Item) → k < length new → There (slice_index_or new k d)
    still_there k d lt = all_there (suc k) d (omega arith)

    rest : (u : ℕ) → u ≢ x.task → (k : ℕ) → k < length (x ∷ new) → ((d : Item) → (slice_index_or (x ∷ new) k d).task ≡ u) → IsIn new u
    rest u n zero lt there = absurd (n (sym (there x)))
    rest u n (suc k) lt there = record { position = k; inside = omega arith; there = there }

    find : (u : ℕ) (p : Entry) → p.queue ≡ id → Changed entries x.task None u p → IsIn new u
    find u p q (this same e) = absurd (cc)
    find u p q (other n e) = let old = in_moved items (x ∷ new) u moved (h.all u p (e, q)) in rest u n old.position old.inside old.there

    fewer : count_by (is_in id) (set entries x.task None) + (if is_in id (entry_at entries x.task) then 1 else 0) ≡ count_by (is_in id) entries + (if is_in id None then 1 else 0)
        → length new ≡ count_by (is_in id) (set entries x.task None)
    fewer f =
        let here : entry_at entries x.task ≡ Some (entry_for id x.priority) = all_there 0 x (omega arith) in
        let g : count_by (is_in id) (set entries x.task None) + 1 ≡ count_by (is_in id) entries + 0 = rw (here, is_in_from id (entry_for id x.priority) refl) at f in
        let long : length (x ∷ new) ≡ length items = length_permutation items (x ∷ new) moved in
        omega (arith, g, h.count, long)

-- ---- the spots of other queues

-- a change that keeps the spots of tasks that aren't in one array keeps those of another
pub spots_elsewhere : (items busy : List Item) (old new : List ℕ) → All (λ y. IsAbsent busy y.task) items → KeepsOthers busy old new → HasSpots items old → HasSpots items new
spots_elsewhere items busy old new out keeps h k d e lt =
    let stands = h k d e lt in
    (subst (λ n. (slice_index_or items k d).task < n) (sym keeps.long) stands.0, keeps.same (slice_index_or items k d).task e (out k d lt) ∙ stands.1)

-- no task is in the heaps of two queues
pub holds_apart : (entries : Entries) (id other_id : ℕ) (items others : List Item) → id ≢ other_id → Holds entries id items → Holds entries other_id others → All (λ y. IsAbsent items y.task) others
holds_apart entries id other_id items others n h k j d lt =
    holds_absent entries id items (slice_index_or others j d).task (subst (λ o. is_in id o ≡ false) (sym (k.there j d lt)) (ne_eqb other_id id (λ e. n (sym e)))) h

-- nor by another than the one that a task enters
pub holds_apart_with : (entries : Entries) (id other_id : ℕ) (items others : List Item) (x : Item) → id ≢ other_id → entry_at entries x.task ≡ None → Holds entries id items → Holds entries other_id others
    → All (λ y. IsAbsent (items ++ x ∷ []) y.task) others
holds_apart_with entries id other_id items others x n free h k j d lt =
    let t = (slice_index_or others j d).task in
    let out : IsAbsent items t = holds_apart entries id other_id items others n h k j d lt in
    let apart : (x.task == t) ≡ false = ne_eqb x.task t (λ e. waits (subst (λ u. entry_at entries u ≡ None) e free) (k.there j d lt)) in
    list_any-append (λ (y : Item). y.task == t) items (x ∷ []) ∙ or_from (list_any (λ (y : Item). y.task == t) items) (list_any (λ (y : Item). y.task == t) (x ∷ [])) out (or_from (x.task == t) false apart refl)
  where
    waits : {o : Option Entry} {p : Entry} → o ≡ None → o ≡ Some p → ⊥
    waits e f = absurd (cc)

-- ---- the front

-- no item leaves before the first
pub heap_first : (items : List Item) → IsHeap items → (k : ℕ) → k < length items → IsBehind items k 0
heap_first items h k lt = go k k (omega arith) lt
  where
    same : (k : ℕ) → k ≡ 0 → k < length items → IsBehind items k 0
    same k e lt d f = rw (e, get_or_default items 0 d f (omega (arith, e, lt))) (itself (slice_index_or items 0 f).priority)

    by : (k : ℕ) → k < length items → (k ≡ 0) ⊎ (k ≡ 0 → ⊥) → (0 < k → IsBehind items (parent k) 0) → IsBehind items k 0
    by k lt (inl e) up = same k e lt
    by k lt (inr m) up = λ d f.
        not-trans (slice_index_or items k d).priority (slice_index_or items (parent k) d).priority (slice_index_or items 0 f).priority
        (h k (omega (arith, m)) lt d d) (up (omega (arith, m)) d f)

    go : (n k : ℕ) → k ≤ n → k < length items → IsBehind items k 0
    go zero k le lt = same k (omega arith) lt
    go (suc n) k le lt = by k lt (cases_eq k 0) (λ some. go n (parent k) (omega (arith, some, le)) (omega (arith, some, lt)))

-- the first item's task is the front, and there is none if nobody waits
pub holds_front : (s : QueueState) (id : ℕ) (items : List Item) → HasOwnStamps s → IsHeap items → Holds s.entries id items → MatchOption (first_item items) (NobodyIn s id) (IsFront s id)
holds_front s id [] stamps heap h = λ t p w. let is = h.all t p w in let inside = is.inside in absurd (omega arith)
holds_front s id (r ∷ rs) stamps heap h = record {
  entry = entry_for id r.priority;
  waits = (h.there 0 r (omega arith), refl);
  first = λ u o n w. let f = found (r ∷ rs) u (h.all u o w) in go u o n w f.item f.contained f.is;
}
  where
    go : (u : ℕ) (o : Entry) → u ≢ r.task → Waits s id u o → (x : Item) → Contains (r ∷ rs) x → x.task ≡ u → is_before (entry_for id r.priority) o ≡ true
    go u o n w x (k, lt, e) is =
        let entry = holds_entry s.entries id (r ∷ rs) u o x h w.0 (k, lt, e) is in
        let late : comes_before x.priority r.priority ≡ false = subst (λ (y : Item). comes_before y.priority r.priority ≡ false) e (heap_first (r ∷ rs) heap k lt x r) in
        let apart : o.stamp ≢ r.priority.stamp = stamps u r.task o (entry_for id r.priority) n w.0 (h.there 0 r (omega arith)) in
        let apart_too : x.priority.stamp ≢ r.priority.stamp = subst (λ (v : Entry). v.stamp ≢ r.priority.stamp) (sym entry) apart in
        let below = not_before x.priority r.priority late in
        subst (λ v. is_before (entry_for id r.priority) v ≡ true) entry
        (by_stamps id r.priority.key r.priority.stamp id x.priority.key x.priority.stamp (record { keys = below.keys; stamps = λ same. let no_later = below.stamps same in omega (arith, no_later, apart_too) }))
