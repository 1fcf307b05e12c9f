-- Rising and falling in a heap: each exchange leaves one position less where the order may fail, and halves the way up
-- or doubles that down.
use Rattle.std.proofs.Common.{◌≡◌, ◌≢◌, ℕ, suc, ◌+◌, ◌*◌, ◌^◌, ◌<◌, ◌≤◌, Bool, true, false, ◌==◌, List, [], ◌∷◌, ◌++◌, length, slice_index_or, refl, sym, ap, ◌∙◌, subst, arith, ◌⊎◌, inl, inr}
use Rattle.std.proofs.Math.Nat.{mul_assoc, mul-le-mul_left, pow-succ'}
use Rattle.std.specs.List.{SwappedAt, list_any}
use Rattle.std.proofs.lemmas.List.Folds.{list_any_at, list_any-append}
use Rattle.std.proofs.lemmas.Bool.{both_ways, eq-eqb, or_parts, or_left, or_right, false_from_ne_true, cases_eq, cases_lt}
use Rattle.std.proofs.lemmas.List.{get_or_default, length-append}
use Rattle.scx_dsq.specs.declared.entries.Rank.TheVariants.{Vtime}
use Rattle.scx_dsq.specs.declared.entries.Entry.{Entry}
use Rattle.scx_dsq.specs.declared.priority.Priority.{Priority}
use Rattle.scx_dsq.specs.declared.heap.Item.{Item}
use Rattle.scx_dsq.specs.Heaps.{comes_before, parent, IsBehind, IsHeap, IsHeapBut, IsHeapAround, IsFirstChild, Fell, Rose, Settled}
use Rattle.scx_dsq.proofs.Orders.{Below, by_stamps, before-asym, before-trans}

-- ---- the order

as_place : Priority → Entry
as_place p = record { queue = 0; rank = Vtime p.key; stamp = p.stamp }

-- no two priorities come before each other
pub asym : (p q : Priority) → comes_before p q ≡ true → comes_before q p ≡ false
unfolding as_place
asym p q h = before-asym (as_place p) (as_place q) h

-- what comes before one that comes before a third comes before the third
pub trans : (p q r : Priority) → comes_before p q ≡ true → comes_before q r ≡ true → comes_before p r ≡ true
unfolding as_place
trans p q r h k = before-trans (as_place p) (as_place q) (as_place r) h k

-- what the test says where it fails
pub not_before : (p q : Priority) → comes_before p q ≡ false → Below q.key q.stamp p.key (p.stamp + 1)
unfolding as_place
not_before p q h = record { keys = keys (cases_lt p.key q.key); stamps = λ e. stamps e (cases_lt p.stamp q.stamp) }
  where
    keys : (p.key < q.key) ⊎ (q.key ≤ p.key) → q.key ≤ p.key
    keys (inl lt) = absurd (both_ways _ h (by_stamps 0 p.key p.stamp 0 q.key q.stamp (record { keys = omega arith; stamps = λ e. absurd (omega arith) })))
    keys (inr le) = le

    stamps : q.key ≡ p.key → (p.stamp < q.stamp) ⊎ (q.stamp ≤ p.stamp) → q.stamp < p.stamp + 1
    stamps e (inl lt) = absurd (both_ways _ h (by_stamps 0 p.key p.stamp 0 q.key q.stamp (record { keys = omega arith; stamps = λ f. lt })))
    stamps e (inr le) = omega arith

same_priority : (p r : Priority) → r.key ≡ p.key → r.stamp ≡ p.stamp → p ≡ r
same_priority p r e f = rw (e, f) refl

-- no priority comes before itself
pub itself : (x : Priority) → comes_before x x ≡ false
itself x = false_from_ne_true _ (λ t. both_ways _ (asym x x t) t)

-- who leaves before none that leaves before none
pub not-trans : (p q r : Priority) → comes_before p q ≡ false → comes_before q r ≡ false → comes_before p r ≡ false
unfolding as_place
not-trans p q r h k = false_from_ne_true _ (λ t. both_ways _ (reversed (cases_eq r.key p.key)) t)
  where
    first : Below q.key q.stamp p.key (p.stamp + 1)
    first = not_before p q h

    second : Below r.key r.stamp q.key (q.stamp + 1)
    second = not_before q r k

    reversed : (r.key ≡ p.key) ⊎ (r.key ≡ p.key → ⊥) → comes_before p r ≡ false
    reversed (inl e) =
        let a = first.keys in
        let b = second.keys in
        let c = first.stamps (omega arith) in
        let d = second.stamps (omega arith) in
        go (cases_eq r.stamp p.stamp)
      where
        go : (r.stamp ≡ p.stamp) ⊎ (r.stamp ≡ p.stamp → ⊥) → comes_before p r ≡ false
        go (inl same) = false_from_ne_true _ (λ t. both_ways _ (subst (λ x. comes_before p x ≡ false) (same_priority p r e same) (itself p)) t)
        go (inr n) =
            let a = first.keys in
            let b = second.keys in
            let c = first.stamps (omega arith) in
            let d = second.stamps (omega arith) in
            before-asym (as_place r) (as_place p) (by_stamps 0 r.key r.stamp 0 p.key p.stamp (record { keys = omega arith; stamps = λ f. omega arith }))
    reversed (inr n) =
        let a = first.keys in
        let b = second.keys in
        before-asym (as_place r) (as_place p) (by_stamps 0 r.key r.stamp 0 p.key p.stamp (record { keys = omega arith; stamps = λ f. absurd (n f) }))

-- ---- the cost

list_any_here : (t : ℕ) (ts : List ℕ) → list_any (λ p. p == t) (t ∷ ts) ≡ true
list_any_here t ts = list_any_at (λ p. p == t) (t ∷ ts) 0 0 (omega arith) (eq-eqb t t refl)

-- what is none of them is neither the first nor one of the rest
pub not_there : (k t : ℕ) (ts : List ℕ) → list_any (λ p. p == k) (t ∷ ts) ≡ false → (k ≢ t) × (list_any (λ p. p == k) ts ≡ false)
not_there k t ts out =
    let parts = or_parts (t == k) (list_any (λ p. p == k) ts) out in
    ((λ e. both_ways (t == k) parts.0 (eq-eqb t k (sym e))), parts.1)

-- one level further down
deeper : (n start at child : ℕ) → 2 ^ n * (start + 1) ≤ at + 1 → 2 * (at + 1) ≤ child → 2 ^ suc n * (start + 1) ≤ child
deeper n start at child h twice =
    let same : 2 ^ suc n * (start + 1) ≡ 2 * (2 ^ n * (start + 1)) = ap (λ x. x * (start + 1)) (pow-succ' 2 n) ∙ mul_assoc 2 (2 ^ n) (start + 1) in
    omega (arith, same, h, twice)

-- one level further up
higher : (n start at : ℕ) → 0 < at → 2 ^ n * (at + 1) ≤ start + 1 → 2 ^ suc n * (parent at + 1) ≤ start + 1
higher n start at up h =
    let half : 2 * (parent at + 1) ≤ at + 1 = omega arith in
    let more = mul-le-mul_left (2 ^ n) half in
    rw (pow-succ' 2 n) (omega (arith, more, h))

whole : (n start at : ℕ) → 2 ^ n * (at + 1) ≤ start + 1 → 2 ^ n ≤ start + 1
whole n start at h = let more = mul-le-mul_left (2 ^ n) (one_at at) in omega (arith, more, h)
  where
    one_at : (k : ℕ) → 1 ≤ k + 1
    one_at k = omega arith

-- how far the item has come up, and that its position is among those that have changed, or where it began
pub record Rises (old now : List Item) (start at steps : ℕ) : Type 0 where
  pub levels : ℕ
  pub depth : 2 ^ levels * (at + 1) ≤ start + 1
  pub cost : steps ≤ levels
  pub positions : List ℕ
  pub few : length positions ≤ levels
  pub differs : (k : ℕ) → k ≢ start → list_any (λ p. p == k) positions ≡ false → (d : Item) → slice_index_or now k d ≡ slice_index_or old k d
  pub here : at ≢ start → list_any (λ p. p == at) positions ≡ true

-- at the start the item has come up no level, by no step
pub rises_none : (old : List Item) (start : ℕ) → Rises old old start start 0
rises_none old start = record { levels = 0; depth = omega arith; cost = omega arith; positions = []; few = omega arith; differs = λ k n out d. refl; here = λ n. absurd (n refl) }

-- after an exchange with its parent it is at the parent's position, by one step more
pub rises_more : (old now new : List Item) (start at n m : ℕ) → Rises old now start at n → m ≤ n + 1 → 0 < at → SwappedAt now new at (parent at) → Rises old new start (parent at) m
rises_more old now new start at n m h few up swapped = record {
  levels = suc h.levels;
  depth = higher h.levels start at up h.depth;
  cost = let cost = h.cost in omega arith;
  positions = parent at ∷ h.positions;
  few = let few = h.few in omega arith;
  differs = λ k n out d. let apart = not_there k (parent at) h.positions out in
      swapped.2 k d (λ e. both_ways _ apart.1 (subst (λ j. list_any (λ p. p == j) h.positions ≡ true) (sym e) (h.here (λ s. n (e ∙ s))))) apart.0 ∙ h.differs k n apart.1 d;
  here = λ n. list_any_here (parent at) h.positions;
}

-- where it stays below its parent the way up is done, by one step more
pub rose : (old now : List Item) (start at n m : ℕ) → Rises old now start at n → m ≤ n + 1 → 0 < at → Rose old now start m
rose old now start at n m h few up = record {
  levels = suc h.levels;
  depth = whole (suc h.levels) start (parent at) (higher h.levels start at up h.depth);
  cost = let cost = h.cost in omega arith;
  positions = h.positions;
  few = let few = h.few in omega arith;
  differs = h.differs;
}

-- and it is done at the top, by no step more
pub rose_here : (old now : List Item) (start at n : ℕ) → Rises old now start at n → Rose old now start n
rose_here old now start at n h = record { levels = h.levels; depth = whole h.levels start at h.depth; cost = h.cost; positions = h.positions; few = h.few; differs = h.differs }

-- at the start the item has fallen no level, by no step
pub fell_none : (old : List Item) (start : ℕ) → Fell old old start start 0
fell_none old start = record { levels = 0; depth = omega arith; cost = omega arith; positions = start ∷ []; few = omega arith; differs = λ k d out. refl; top = list_any_here start []; here = list_any_here start [] }

-- after an exchange with a child it is at the child's position, by one step more
pub fell_more : (old now new : List Item) (start at child n m : ℕ) → Fell old now start at n → m ≤ n + 1 → 2 * (at + 1) ≤ child + 1 → SwappedAt now new child at → Fell old new start child m
fell_more old now new start at child n m h few twice swapped = record {
  levels = suc h.levels;
  depth = deeper h.levels start at (child + 1) h.depth twice;
  cost = let cost = h.cost in omega arith;
  positions = child ∷ h.positions;
  few = let few = h.few in omega arith;
  differs = λ k d out. let apart = not_there k child h.positions out in
      swapped.2 k d apart.0 (λ e. both_ways _ apart.1 (subst (λ j. list_any (λ p. p == j) h.positions ≡ true) (sym e) h.here)) ∙ h.differs k d apart.1;
  top = or_right (child == start) (list_any (λ p. p == start) h.positions) h.top;
  here = list_any_here child h.positions;
}

-- a way down and a way up from its end are all of it
pub settled : (old now new : List Item) (start at n m steps : ℕ) → at < length old → Fell old now start at n → Rose now new at m → steps ≤ n + m → Settled old new start steps
settled old now new start at n m steps within f r few = record {
  down = f.levels;
  up = r.levels;
  deep = let depth = f.depth in let least = at_least (2 ^ f.levels) start in omega arith;
  high = let depth = r.depth in omega arith;
  cost = let a = f.cost in let b = r.cost in omega arith;
  positions = f.positions ++ r.positions;
  few = let a = f.few in let b = r.few in omega (arith, a, b, length-append f.positions r.positions);
  top = list_any-append (λ p. p == start) f.positions r.positions ∙ or_left (list_any (λ p. p == start) f.positions) (list_any (λ p. p == start) r.positions) f.top;
  differs = λ k d out.
      let parts = or_parts (list_any (λ p. p == k) f.positions) (list_any (λ p. p == k) r.positions) (sym (list_any-append (λ p. p == k) f.positions r.positions) ∙ out) in
      r.differs k (λ e. both_ways _ parts.0 (subst (λ j. list_any (λ p. p == j) f.positions ≡ true) (sym e) f.here)) parts.1 d ∙ f.differs k d parts.0;
}
  where
    at_least : (x k : ℕ) → x ≤ x * (k + 1)
    at_least x k = omega arith

-- ---- the heap

-- what was read by one default is read by all
pub read_by_all : (items : List Item) (k j : ℕ) (x y : Item) (b : Bool) → k < length items → j < length items → comes_before (slice_index_or items k x).priority (slice_index_or items j y).priority ≡ b
    → (d e : Item) → comes_before (slice_index_or items k d).priority (slice_index_or items j e).priority ≡ b
read_by_all items k j x y b p q h d e = rw (get_or_default items k d x p, get_or_default items j e y q) h

module _ (items new : List Item) (at : ℕ) (up : 0 < at) (within : at < length items) (long : length new ≡ length items) (swapped : SwappedAt items new at (parent at))
    (early : (d e : Item) → comes_before (slice_index_or items at d).priority (slice_index_or items (parent at) e).priority ≡ true) (h : IsHeapBut items at) where
  at_of : (d : Item) → slice_index_or new at d ≡ slice_index_or items (parent at) d
  at_of = swapped.0

  up_of : (d : Item) → slice_index_or new (parent at) d ≡ slice_index_or items at d
  up_of = swapped.1

  rest_of : (k : ℕ) (d : Item) → k ≢ at → k ≢ parent at → slice_index_or new k d ≡ slice_index_or items k d
  rest_of = swapped.2

  below : parent at < at
  below = omega arith

  others : (k : ℕ) → 0 < k → k < length new → k ≢ parent at → IsBehind new k (parent k)
  others k some lt n d e = go (cases_eq k at)
    where
      go : (k ≡ at) ⊎ (k ≡ at → ⊥) → comes_before (slice_index_or new k d).priority (slice_index_or new (parent k) e).priority ≡ false
      go (inl same) = rw (same, at_of d, up_of e) (asym (slice_index_or items at e).priority (slice_index_or items (parent at) d).priority (early e d))
      go (inr m) = by (cases_eq (parent k) at) (cases_eq (parent k) (parent at))
        where
          here : slice_index_or new k d ≡ slice_index_or items k d
          here = rest_of k d m n

          old : (x : Item) → comes_before (slice_index_or items k d).priority (slice_index_or items (parent k) x).priority ≡ false
          old x = h.others k some (omega (arith, lt, long)) m d x

          by : (parent k ≡ at) ⊎ (parent k ≡ at → ⊥) → (parent k ≡ parent at) ⊎ (parent k ≡ parent at → ⊥) → comes_before (slice_index_or new k d).priority (slice_index_or new (parent k) e).priority ≡ false
          by (inl child) s = rw (here, child, at_of e) (h.children k some (omega (arith, lt, long)) child up d e)
          by (inr o) (inl sibling) =
              let not_up : comes_before (slice_index_or items k d).priority (slice_index_or items (parent at) e).priority ≡ false = subst (λ j. comes_before (slice_index_or items k d).priority (slice_index_or items j e).priority ≡ false) sibling (old e) in
              rw (here, sibling, up_of e) (false_from_ne_true _ (λ t. both_ways _ not_up (trans (slice_index_or items k d).priority (slice_index_or items at e).priority (slice_index_or items (parent at) e).priority t (early e e))))
          by (inr o) (inr other) = rw (here, rest_of (parent k) e o other) (old e)

  children : (k : ℕ) → 0 < k → k < length new → parent k ≡ parent at → 0 < parent at → IsBehind new k (parent (parent at))
  children k some lt child top d e = go (cases_eq k at)
    where
      far : slice_index_or new (parent (parent at)) e ≡ slice_index_or items (parent (parent at)) e
      far = rest_of (parent (parent at)) e (λ x. absurd (omega arith)) (λ x. absurd (omega arith))

      grand : (x : Item) → comes_before (slice_index_or items (parent at) x).priority (slice_index_or items (parent (parent at)) e).priority ≡ false
      grand x = h.others (parent at) top (omega arith) (λ y. absurd (omega arith)) x e

      go : (k ≡ at) ⊎ (k ≡ at → ⊥) → comes_before (slice_index_or new k d).priority (slice_index_or new (parent (parent at)) e).priority ≡ false
      go (inl same) = rw (same, at_of d, far) (grand d)
      go (inr m) =
          let here = rest_of k d m (λ x. absurd (omega arith)) in
          let old : comes_before (slice_index_or items k d).priority (slice_index_or items (parent at) d).priority ≡ false =
          subst (λ j. comes_before (slice_index_or items k d).priority (slice_index_or items j d).priority ≡ false) child (h.others k some (omega (arith, lt, long)) m d d) in
          rw (here, far) (not-trans (slice_index_or items k d).priority (slice_index_or items (parent at) d).priority (slice_index_or items (parent (parent at)) e).priority old (grand d))

  -- after an exchange with its parent only the item there now may leave before its own parent
  pub exchanged : IsHeapBut new (parent at)
  exchanged = record { others = others; children = children }

-- a heap but for the first position is one
pub heap_at_root : (items : List Item) → IsHeapBut items 0 → IsHeap items
heap_at_root items h k some lt = h.others k some lt (λ e. absurd (omega arith))

-- a heap but for one position that doesn't leave before its parent is one
pub heap_here : (items : List Item) (at : ℕ) → IsHeapBut items at → ((d e : Item) → comes_before (slice_index_or items at d).priority (slice_index_or items (parent at) e).priority ≡ false) → IsHeap items
heap_here items at h late k some lt = go (cases_eq k at)
  where
    go : (k ≡ at) ⊎ (k ≡ at → ⊥) → IsBehind items k (parent k)
    go (inl same) = subst (λ j. IsBehind items j (parent j)) (sym same) late
    go (inr n) = h.others k some lt n

-- ---- falling

module _ (items new : List Item) (at c : ℕ) (h : IsHeapAround items at) (child : IsFirstChild items at c) (long : length new ≡ length items) (swapped : SwappedAt items new c at) where
  under : at < c
  under = let is = child.of in let some = child.positive in omega arith

  child_of : (d : Item) → slice_index_or new c d ≡ slice_index_or items at d
  child_of = swapped.0

  parent_of : (d : Item) → slice_index_or new at d ≡ slice_index_or items c d
  parent_of = swapped.1

  kept : (k : ℕ) (d : Item) → k ≢ c → k ≢ at → slice_index_or new k d ≡ slice_index_or items k d
  kept = swapped.2

  fallen_others : (k : ℕ) → 0 < k → k < length new → k ≢ c → parent k ≢ c → IsBehind new k (parent k)
  fallen_others k some lt o n d e = go (cases_eq k at) (cases_eq (parent k) at)
    where
      inside : k < length items
      inside = omega (arith, lt, long)

      go : (k ≡ at) ⊎ (k ≡ at → ⊥) → (parent k ≡ at) ⊎ (parent k ≡ at → ⊥) → comes_before (slice_index_or new k d).priority (slice_index_or new (parent k) e).priority ≡ false
      go (inl same) t =
          let far = kept (parent at) e (λ x. absurd (let y = under in omega arith)) (λ x. absurd (omega arith)) in
          rw (same, parent_of d, far) (h.above c child.positive child.inside child.of (omega arith) d e)
      go (inr m) (inl is) = rw (kept k d o m, is, parent_of e) (child.first k some inside is d e)
      go (inr m) (inr isnt) = rw (kept k d o m, kept (parent k) e n isnt) (h.others k some inside m isnt d e)

  fallen_above : (k : ℕ) → 0 < k → k < length new → parent k ≡ c → 0 < c → IsBehind new k (parent c)
  fallen_above k some lt is pos d e =
      let x = under in
      let old = h.others k some (omega (arith, lt, long)) (λ y. absurd (omega arith)) (λ y. absurd (omega arith)) d e in
      let to_child : comes_before (slice_index_or items k d).priority (slice_index_or items c e).priority ≡ false = subst (λ j. comes_before (slice_index_or items k d).priority (slice_index_or items j e).priority ≡ false) is old in
      rw (child.of, kept k d (λ y. absurd (omega arith)) (λ y. absurd (omega arith)), parent_of e) to_child

  -- after an exchange with the first child the heap is one around that position
  pub fallen : IsHeapAround new c
  fallen = record { others = fallen_others; above = fallen_above }

-- a heap around one position, behind which none are, is one but for it
pub heap_at_end : (items : List Item) (at : ℕ) → IsHeapAround items at → length items ≤ 2 * at + 1 → IsHeapBut items at
heap_at_end items at h past = record {
  others = λ k some lt n. h.others k some lt n (λ e. absurd (omega arith));
  children = λ k some lt is up. absurd (omega arith);
}
