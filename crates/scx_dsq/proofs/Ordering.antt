-- The order of the ids: who is found there, and one id more.
use Rattle.std.proofs.Common.{◌≡◌, ℕ, ◌+◌, ◌-◌, ◌/◌, ◌<◌, ◌≤◌, true, false, ◌==◌, ◌⊎◌, inl, inr, List, [], ◌∷◌, ◌++◌, length, get_or, take, drop, insert, All, AllPairs, Contains, refl, sym, ap, ◌∙◌, subst, arith}
use Rattle.std.specs.List.{list_any}
use Rattle.std.proofs.lemmas.Bool.{cases_lt, cases_eq, cases_order, ne_eqb, eq-eqb}
use Rattle.std.proofs.lemmas.List.{get_or_append_left, get_or_push, get_or_default, length_push, length-map}
use Rattle.std.proofs.lemmas.List.Elements.{All-append, All-cons, All-take, All-drop, All-weaker}
use Rattle.std.proofs.lemmas.List.Edits.{length-insert, get_or-insert_below, get_or-insert_at, get_or-insert_above}
use Rattle.std.proofs.lemmas.List.Folds.{list_any_none, list_any_at}
use Rattle.std.proofs.lemmas.Grind.{in_insert, in_between}
use Rattle.scx_dsq.specs.declared.queue.Queue.{Queue}
use Rattle.scx_dsq.specs.Links.{no_ends}
use Rattle.scx_dsq.specs.Order.{IsOrder, IsGap}
use Rattle.scx_dsq.specs.Kept.{ids_of}
use Rattle.scx_dsq.proofs.Keeping.{id_at}

-- ---- one element more in a list

All-insert : {X : Type 0} (P : X → Type 0) (xs : List X) (i : ℕ) (y : X) → All P xs → P y → All P (insert xs i y)
All-insert P xs i y all here =
    All-append P (take i xs) (y ∷ drop i xs) (All-take P i xs all) (All-cons P y (drop i xs) here (All-drop P i xs all))

Contains-insert : {X : Type 0} (xs : List X) (i : ℕ) (y x : X) → i ≤ length xs → Contains xs x → Contains (insert xs i y) x
Contains-insert xs i y x within (k, lt, e) = (in_insert xs i k y x within lt (sym e)).1

Contains-inserted : {X : Type 0} (xs : List X) (i : ℕ) (y : X) → Contains (insert xs i y) y
Contains-inserted xs i y = (in_between (take i xs) (drop i xs) y).1

insert_above : {X : Type 0} (xs : List X) (i : ℕ) (y d : X) (k : ℕ) → i < k → i ≤ length xs → get_or (insert xs i y) k d ≡ get_or xs (k - 1) d
insert_above xs i y d k lt within =
    let e : (k - 1) + 1 ≡ k = omega arith in
    subst (λ (j : ℕ). get_or (insert xs i y) j d ≡ get_or xs (k - 1) d) e (get_or-insert_above xs i y d (k - 1) (omega arith) within)

along : {X : Type 0} (R : X → X → Type 0) (w x y z : X) → w ≡ x → y ≡ z → R x z → R w y
along R w x y z p q h = subst (λ v. R v y) (sym p) (subst (R x) (sym q) h)

-- one that comes after those in front of it and before those behind it
AllPairs-insert : {X : Type 0} (R : X → X → Type 0) (xs : List X) (i : ℕ) (y : X) → i ≤ length xs → AllPairs R xs
    → ((k : ℕ) (d : X) → k < i → R (get_or xs k d) y) → ((k : ℕ) (d : X) → i ≤ k → k < length xs → R y (get_or xs k d))
    → AllPairs R (insert xs i y)
AllPairs-insert {X} R xs i y within pairs front behind =
    λ a b d lt in_list. go a b d lt (omega (arith, in_list, length-insert xs i y within)) (cases_order b i) (cases_order a i)
  where
    go : (a b : ℕ) (d : X) → a < b → b ≤ length xs → (b ≡ i) ⊎ ((b < i) ⊎ (i < b)) → (a ≡ i) ⊎ ((a < i) ⊎ (i < a)) → R (get_or (insert xs i y) a d) (get_or (insert xs i y) b d)
    go a b d lt in_list (inl same) u =
        along R _ _ _ _ (get_or-insert_below xs i y d a (omega arith) within) (rw same (get_or-insert_at xs i y d within)) (front a d (omega arith))
    go a b d lt in_list (inr (inl below)) u =
        along R _ _ _ _ (get_or-insert_below xs i y d a (omega arith) within) (get_or-insert_below xs i y d b below within) (pairs a b d lt (omega arith))
    go a b d lt in_list (inr (inr above)) (inl same) =
        along R _ _ _ _ (rw same (get_or-insert_at xs i y d within)) (insert_above xs i y d b above within) (behind (b - 1) d (omega arith) (omega arith))
    go a b d lt in_list (inr (inr above)) (inr (inl below)) =
        along R _ _ _ _ (get_or-insert_below xs i y d a below within) (insert_above xs i y d b above within) (pairs a (b - 1) d (omega arith) (omega arith))
    go a b d lt in_list (inr (inr above)) (inr (inr over)) =
        along R _ _ _ _ (insert_above xs i y d a over within) (insert_above xs i y d b above within) (pairs (a - 1) (b - 1) d (omega arith) (omega arith))

-- ---- the order

-- an id that has a gap in the order isn't there
pub missing : (ids order : List ℕ) (id gap : ℕ) → IsOrder ids order → IsGap ids order id gap → list_any (λ other. other == id) ids ≡ false
missing ids order id gap h g = list_any_none (λ other. other == id) ids (λ m d lt. ne_eqb (get_or ids m d) id (λ e. apart m lt (sym (get_or_default ids m d 0 lt) ∙ e)))
  where
    apart : (m : ℕ) → m < length ids → get_or ids m 0 ≡ id → ⊥
    apart m lt e = go (h.all m lt)
      where
        go : Contains order m → ⊥
        go (k, inside, at) = by (cases_lt k gap)
          where
            here : get_or ids (get_or order k m) 0 ≡ id
            here = ap (λ n. get_or ids n 0) at ∙ e

            by : (k < gap) ⊎ (gap ≤ k) → ⊥
            by (inl before) = let less = g.below k m before in absurd (omega (arith, less, here))
            by (inr behind) = let more = g.above k m behind inside in absurd (omega (arith, more, here))

-- the order with the new id at its gap is that of all
pub order_with : (ids order : List ℕ) (id gap : ℕ) → IsOrder ids order → IsGap ids order id gap → IsOrder (ids ++ id ∷ []) (insert order gap (length ids))
order_with ids order id gap h g = record {
  within = All-insert (λ a. a < length new) order gap (length ids) (All-weaker (λ a. a < length ids) (λ a. a < length new) (λ a lt. omega (arith, lt, long)) order h.within) (omega (arith, long));
  ascending = AllPairs-insert (λ a b. get_or new a 0 < get_or new b 0) order gap (length ids) g.within
      (λ a b d lt inside. rw (old a d (omega arith), old b d inside) (h.ascending a b d lt inside))
      (λ k d lt. rw (old k d (omega (arith, g.within)), here) (g.below k d lt))
      (λ k d le lt. rw (old k d lt, here) (g.above k d le lt));
  all = λ m lt. there m (omega (arith, lt, long)) (cases_eq m (length ids));
}
  where
    new : List ℕ
    new = ids ++ id ∷ []

    long : length new ≡ length ids + 1
    long = length_push ids id

    here : get_or new (length ids) 0 ≡ id
    here = get_or_push ids id 0 (length ids) refl

    old : (k d : ℕ) → k < length order → get_or new (get_or order k d) 0 ≡ get_or ids (get_or order k d) 0
    old k d lt = get_or_append_left ids (id ∷ []) 0 (get_or order k d) (h.within k d lt)

    there : (m : ℕ) → m ≤ length ids → (m ≡ length ids) ⊎ (m ≡ length ids → ⊥) → Contains (insert order gap (length ids)) m
    there m le (inl same) = subst (λ n. Contains (insert order gap (length ids)) n) (sym same) (Contains-inserted order gap (length ids))
    there m le (inr n) = Contains-insert order gap (length ids) m g.within (h.all m (omega (arith, le, n)))

-- ---- the queue that is named

-- an id that the order names is there
pub named : (ids order : List ℕ) (id k : ℕ) → IsOrder ids order → (k < length order) × ((d : ℕ) → get_or ids (get_or order k d) 0 ≡ id) → list_any (λ other. other == id) ids ≡ true
named ids order id k h at = list_any_at (λ other. other == id) ids (get_or order k 0) 0 (h.within k 0 at.0) (eq-eqb _ id (at.1 0))

-- and the queue that it names has it
pub stands : (live : List Queue) (order : List ℕ) (id k a : ℕ) → IsOrder (ids_of live) order → (k < length order) × ((d : ℕ) → get_or (ids_of live) (get_or order k d) 0 ≡ id) → a ≡ get_or order k a
    → (a < length live) × ((q : Queue) → (get_or live a q).id ≡ id)
stands live order id k a h at read = (
  omega (arith, within, length-map live (λ (q : Queue). q.id)),
  λ q. sym (id_at live a q) ∙ get_or_default (ids_of live) a q.id 0 within ∙ ap (λ n. get_or (ids_of live) n 0) read ∙ at.1 a,
)
  where
    within : a < length (ids_of live)
    within = subst (λ n. n < length (ids_of live)) (sym read) (h.within k a at.0)

-- an id is there where a queue has it
pub there : (live : List Queue) (id k : ℕ) → (k < length live) × ((q : Queue) → (get_or live k q).id ≡ id) → list_any (λ other. other == id) (ids_of live) ≡ true
there live id k at = list_any_at (λ other. other == id) (ids_of live) k 0 within (eq-eqb _ id is)
  where
    any : Queue
    any = record { id = id; ends = no_ends; heap = record { room = 0; items = [] } }

    within : k < length (ids_of live)
    within = omega (arith, at.0, length-map live (λ (q : Queue). q.id))

    is : get_or (ids_of live) k 0 ≡ id
    is = get_or_default (ids_of live) k 0 any.id within ∙ id_at live k any ∙ at.1 any

-- ---- the search

-- the ids before one position are less, and those from the other on are greater
pub record IsBetween (ids order : List ℕ) (id low high : ℕ) : Type 0 where
  pub least : low ≤ high
  pub most : high ≤ length order
  pub below : (k d : ℕ) → k < low → get_or ids (get_or order k d) 0 < id
  pub above : (k d : ℕ) → high ≤ k → k < length order → id < get_or ids (get_or order k d) 0

-- at the beginning it may be anywhere
pub whole : (ids order : List ℕ) (id : ℕ) → IsBetween ids order id 0 (length order)
whole ids order id = record { least = omega arith; most = omega arith; below = λ k d lt. absurd (omega arith); above = λ k d le lt. absurd (omega arith) }

-- where the id in the middle is less, it is behind that
pub upper : (ids order : List ℕ) (id low high middle : ℕ) → IsOrder ids order → IsBetween ids order id low high → middle < high → ((d : ℕ) → get_or ids (get_or order middle d) 0 < id) → IsBetween ids order id (middle + 1) high
upper ids order id low high middle h b lt less = record {
  least = omega (arith, lt);
  most = b.most;
  below = λ k d under. by k d (omega (arith, under)) (cases_eq k middle);
  above = b.above;
}
  where
    by : (k d : ℕ) → k ≤ middle → (k ≡ middle) ⊎ (k ≡ middle → ⊥) → get_or ids (get_or order k d) 0 < id
    by k d le (inl same) = rw same (less d)
    by k d le (inr n) =
        let inside : middle < length order = omega (arith, lt, b.most) in
        let before : get_or ids (get_or order k d) 0 < get_or ids (get_or order middle d) 0 = h.ascending k middle d (omega (arith, le, n)) inside in
        omega (arith, before, less d)

-- where that one is greater, it is before it
pub lower : (ids order : List ℕ) (id low high middle : ℕ) → IsOrder ids order → IsBetween ids order id low high → low ≤ middle → middle < high → ((d : ℕ) → id < get_or ids (get_or order middle d) 0) → IsBetween ids order id low middle
lower ids order id low high middle h b le lt more = record {
  least = le;
  most = omega (arith, lt, b.most);
  below = b.below;
  above = λ k d past inside. by k d past inside (cases_eq k middle);
}
  where
    by : (k d : ℕ) → middle ≤ k → k < length order → (k ≡ middle) ⊎ (k ≡ middle → ⊥) → id < get_or ids (get_or order k d) 0
    by k d past inside (inl same) = rw same (more d)
    by k d past inside (inr n) =
        let behind : get_or ids (get_or order middle d) 0 < get_or ids (get_or order k d) 0 = h.ascending middle k d (omega (arith, past, n)) inside in
        omega (arith, behind, more d)

-- where nothing is left between both, there is the gap
pub nothing_between : (ids order : List ℕ) (id low high : ℕ) → IsBetween ids order id low high → high ≤ low → IsGap ids order id low
nothing_between ids order id low high b le = record { within = omega (arith, b.least, b.most); below = b.below; above = λ k d past inside. b.above k d (omega (arith, past, le)) inside }

-- the id in the middle, as it is read
pub middle_id : (live : List Queue) (order : List ℕ) (id low high : ℕ) (q : Queue) → IsOrder (ids_of live) order → IsBetween (ids_of live) order id low high → low < high
    → (d : ℕ) → get_or (ids_of live) (get_or order (low + (high - low) / 2) d) 0 ≡ (get_or live (get_or order (low + (high - low) / 2) 0) q).id
middle_id live order id low high q h b lt d =
    let inside : low + (high - low) / 2 < length order = omega (arith, lt, b.most) in
    let entry = get_or order (low + (high - low) / 2) 0 in
    ap (λ n. get_or (ids_of live) n 0) (get_or_default order (low + (high - low) / 2) d 0 inside)
    ∙ get_or_default (ids_of live) entry 0 q.id (h.within (low + (high - low) / 2) 0 inside) ∙ id_at live entry q
