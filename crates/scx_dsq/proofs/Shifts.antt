-- An item moves from its position to another, where one that is held aside belongs: with that one put back, the two
-- were exchanged.
use Rattle.std.proofs.Common.{◌≡◌, ◌≢◌, ℕ, zero, suc, ◌<◌, Bool, List, [], ◌∷◌, length, get_or, set, refl, sym, ap, ◌∙◌, subst, arith}
use Rattle.std.specs.List.{SwappedAt, swap}
use Rattle.std.specs.List.Sorted.{IsPermutation}
use Rattle.std.proofs.lemmas.List.{get_or_default, get_or-set_same, get_or-set_other, length-set, set-set, set_comm}
use Rattle.std.proofs.lemmas.List.Sorted.{IsPermutation-swap}
use Rattle.scx_dsq.specs.declared.heap.Item.{Item}
use Rattle.scx_dsq.specs.Heaps.{comes_before, parent, IsFirstChild, HasSpots, KeepsOthers, with_item, with_spot}
use Rattle.scx_dsq.proofs.Spots.{spots_after, others_after}

pub record IsShifted (items new : List Item) (spots stood : List ℕ) (to from : ℕ) : Type 0 where
  pub swapped : SwappedAt items new to from
  pub long : length new ≡ length items
  pub placed : HasSpots new stood
  pub same : IsPermutation items new
  pub others : KeepsOthers items spots stood

-- what is written last stays
overwritten : (s : List ℕ) (a b u v w : ℕ) → set (set (set s a u) b v) a w ≡ set (set s b v) a w
overwritten [] a b u v w = refl
overwritten (c ∷ s) zero zero u v w = refl
overwritten (c ∷ s) zero (suc b) u v w = refl
overwritten (c ∷ s) (suc a) zero u v w = ap (λ t. v ∷ t) (set-set s a u w)
overwritten (c ∷ s) (suc a) (suc b) u v w = ap (λ t. c ∷ t) (overwritten s a b u v w)

swap_is : (xs : List Item) (a b : ℕ) (d : Item) → a < length xs → b < length xs → set (set xs a (get_or xs b d)) b (get_or xs a d) ≡ swap xs a b
swap_is [] a b d p q = absurd (omega arith)
swap_is (x ∷ xs) a b d p q = rw (get_or_default (x ∷ xs) a d x p, get_or_default (x ∷ xs) b d x q) refl

module _ (items : List Item) (spots : List ℕ) (x y : Item) (to from : ℕ) (apart : to ≢ from) (first : to < length items) (second : from < length items) (read : y ≡ get_or items from y)
    (h : HasSpots (with_item items x to) (with_spot spots x to)) where
  abbrev old : List Item
  old = with_item items x to

  abbrev new : List Item
  new = with_item (with_item items y to) x from

  long_old : length old ≡ length items
  long_old = length-set items to x

  long_new : length new ≡ length old
  long_new = length-set (set items to y) from x ∙ length-set items to y ∙ sym long_old

  new_to : (d : Item) → get_or new to d ≡ y
  new_to d = get_or-set_other (set items to y) from to x d apart ∙ get_or-set_same items to y d first

  new_from : (d : Item) → get_or new from d ≡ x
  new_from d = get_or-set_same (set items to y) from x d (omega (arith, second, length-set items to y))

  old_to : (d : Item) → get_or old to d ≡ x
  old_to d = get_or-set_same items to x d first

  old_from : (d : Item) → get_or old from d ≡ y
  old_from d = get_or-set_other items to from x d (λ e. apart (sym e)) ∙ get_or_default items from d y second ∙ sym read

  swapped : SwappedAt old new to from
  swapped = (
    λ d. new_to d ∙ sym (old_from d),
    λ d. new_from d ∙ sym (old_to d),
    λ k d n m. get_or-set_other (set items to y) from k x d m ∙ get_or-set_other items to k y d n ∙ sym (get_or-set_other items to k x d n),
    λ d. rw (old_from d, old_to d, set-set items to x y) refl,
  )

  within_to : to < length old
  within_to = omega (arith, first, long_old)

  within_from : from < length old
  within_from = omega (arith, second, long_old)

  is_swap : new ≡ swap old to from
  is_swap = rw (old_from x, old_to x, set-set items to x y) at (swap_is old to from x within_to within_from)

  stood_is : set (set (with_spot spots x to) (get_or new to x).task to) (get_or new from x).task from ≡ with_spot (with_spot spots y to) x from
  stood_is = rw (new_to x, new_from x) (overwritten spots x.task y.task to to from)

  -- with the item put back, before and after, the two positions were exchanged
  pub shifted : IsShifted old new (with_spot spots x to) (with_spot (with_spot spots y to) x from) to from
  shifted = record {
    swapped = swapped;
    long = long_new;
    placed = subst (HasSpots new) stood_is (spots_after old new (with_spot spots x to) to from x within_to within_from h swapped long_new);
    same = IsPermutation-swap old new to from within_to within_from is_swap;
    others = subst (KeepsOthers old (with_spot spots x to)) stood_is (others_after old new (with_spot spots x to) to from x within_to within_from h swapped long_new);
  }

-- with the item that stands at the position put there, nothing is different
pub held_back : (items : List Item) (k : ℕ) (x : Item) → k < length items → x ≡ get_or items k x → with_item items x k ≡ items
held_back [] k x lt e = absurd (omega arith)
held_back (y ∷ items) zero x lt e = rw e refl
held_back (y ∷ items) (suc k) x lt e = ap (λ t. y ∷ t) (held_back items k x (omega arith) e)

spot_back : (spots : List ℕ) (t k : ℕ) → ((d : ℕ) → get_or spots t d ≡ k) → set spots t k ≡ spots
spot_back [] t k e = refl
spot_back (s ∷ spots) zero k e = ap (λ v. v ∷ spots) (sym (e 0))
spot_back (s ∷ spots) (suc t) k e = ap (λ v. s ∷ v) (spot_back spots t k e)

-- and no spot is
pub spotted_back : (items : List Item) (spots : List ℕ) (k : ℕ) (x : Item) → k < length items → x ≡ get_or items k x → HasSpots items spots → with_spot spots x k ≡ spots
spotted_back items spots k x lt e h = spot_back spots x.task k (λ d. ap (λ (y : Item). get_or spots y.task d) e ∙ (h k x d lt).1)

-- ---- while one is held aside

-- the item that moves is the one that is read
pub moved : (items new : List Item) (spots stood : List ℕ) (x d : Item) (to from : ℕ) → to ≢ from → to < length items → from < length items
    → new ≡ with_item items (get_or items from d) to → stood ≡ with_spot spots (get_or items from d) to → HasSpots (with_item items x to) (with_spot spots x to)
    → IsShifted (with_item items x to) (with_item new x from) (with_spot spots x to) (with_spot stood x from) to from
moved items new spots stood x d to from apart first second are stand h =
    rw (are, stand) (shifted items spots x (get_or items from d) to from apart first second (get_or_default items from d (get_or items from d) second) h)

-- an exchange is one in either order
pub flipped : (items now : List Item) (i j : ℕ) → i ≢ j → SwappedAt items now i j → SwappedAt items now j i
flipped items now i j apart s = (s.1, s.0, λ k d n m. s.2 k d m n, λ d. s.3 d ∙ set_comm items i j (get_or items j d) (get_or items i d) apart)

-- tasks of the items beside it, and its own, have spots
pub task_within : (items : List Item) (spots : List ℕ) (x f : Item) (at k : ℕ) → k ≢ at → k < length items → HasSpots (with_item items x at) (with_spot spots x at) → (get_or items k f).task < length spots
task_within items spots x f at k n lt h =
    let there = (h k f 0 (omega (arith, lt, length-set items at x))).0 in
    let same : (get_or (set items at x) k f).task ≡ (get_or items k f).task = ap (λ (y : Item). y.task) (get_or-set_other items at k x f n) in
    omega (arith, there, same, length-set spots x.task at)

-- its own task has one
pub held_within : (items : List Item) (spots : List ℕ) (x : Item) (at : ℕ) → at < length items → HasSpots (with_item items x at) (with_spot spots x at) → x.task < length spots
held_within items spots x at lt h =
    let there = (h at x 0 (omega (arith, lt, length-set items at x))).0 in
    let same : (get_or (set items at x) at x).task ≡ x.task = ap (λ (y : Item). y.task) (get_or-set_same items at x x lt) in
    omega (arith, there, same, length-set spots x.task at)

-- what is read past the end
abbrev pub no_item : Item
no_item = record { task = 0; priority = record { key = 0; stamp = 0 } }

-- whether it leaves before another one
pub held_before : (items : List Item) (x f : Item) (at k : ℕ) (b : Bool) → k ≢ at → at < length items → k < length items → comes_before x.priority (get_or items k f).priority ≡ b
    → (d e : Item) → comes_before (get_or (with_item items x at) at d).priority (get_or (with_item items x at) k e).priority ≡ b
held_before items x f at k b n within lt h d e = rw (get_or-set_same items at x d within, get_or-set_other items at k x e n, get_or_default items k e f lt) h

-- the first child is the same one
pub first_held : (items : List Item) (x : Item) (at c : ℕ) → IsFirstChild items at c → IsFirstChild (with_item items x at) at c
first_held items x at c h = record {
  positive = h.positive;
  inside = let inside = h.inside in omega (arith, length-set items at x);
  of = h.of;
  first = λ k some lt of d e. rw (get_or-set_other items at k x d (below k some of), get_or-set_other items at c x e (below c h.positive h.of)) (h.first k some (omega (arith, lt, length-set items at x)) of d e);
}
  where
    below : (k : ℕ) → 0 < k → parent k ≡ at → k ≢ at
    below k some of e = absurd (omega arith)

-- an item that is held aside where it stands
pub holds_here : (items : List Item) (spots : List ℕ) (k : ℕ) (d : Item) (P : List Item → List ℕ → Type 0) → k < length items → HasSpots items spots → P items spots
    → P (with_item items (get_or items k d) k) (with_spot spots (get_or items k d) k)
holds_here items spots k d P lt h p =
    let read : get_or items k d ≡ get_or items k (get_or items k d) = get_or_default items k d (get_or items k d) lt in
    rw (held_back items k (get_or items k d) lt read, spotted_back items spots k (get_or items k d) lt read h) p

-- and the other way round
pub held_here : (items : List Item) (spots : List ℕ) (k : ℕ) (d : Item) (P : List Item → List ℕ → Type 0) → k < length items → HasSpots items spots
    → P (with_item items (get_or items k d) k) (with_spot spots (get_or items k d) k) → P items spots
held_here items spots k d P lt h p =
    let read : get_or items k d ≡ get_or items k (get_or items k d) = get_or_default items k d (get_or items k d) lt in
    rw (held_back items k (get_or items k d) lt read, spotted_back items spots k (get_or items k d) lt read h) at p
