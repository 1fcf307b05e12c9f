-- Queues by virtual time as heaps in an array (Williams, Algorithm 232): no task leaves before the
-- one at its parent's position.
use Rattle.std.specs.Prelude.{◌≡◌, ◌≢◌, ℕ, ◌+◌, ◌-◌, ◌*◌, ◌/◌, ◌^◌, ◌<◌, ◌≤◌, Bool, false, ◌==◌, ◌&&◌, ◌||◌, true, nat_lt, List, [], ◌∷◌, length, slice_index_or, slice_set, Option, Some, None, MatchOption, IsTrue, if◌then◌else◌}
use Rattle.std.specs.List.{list_any}
use Rattle.scx_dsq.specs.declared.priority.Priority.{Priority}
use Rattle.scx_dsq.specs.declared.heap.Item.{Item}

-- the array of a queue by virtual time, and how many items there is memory for
pub record HeapState : Type 0 where
  pub room : ℕ  -- how many items it has memory for
  pub items : List Item

-- the task of the first item; none of an empty array
abbrev pub first_item : List Item → Option ℕ
first_item [] = None
first_item (x ∷ xs) = Some x.task

-- by key, then by stamp
abbrev pub comes_before : Priority → Priority → Bool
comes_before p q = nat_lt p.key q.key || (p.key == q.key && nat_lt p.stamp q.stamp)

-- the position of a position's parent; 0 for the first, which has none
abbrev pub parent : ℕ → ℕ
parent k = (k - 1) / 2

-- the task at the first position doesn't leave before the one at the second
abbrev pub IsBehind : List Item → ℕ → ℕ → Type 0
IsBehind items k j =
    (d e : Item)
    → comes_before (slice_index_or items k d).priority (slice_index_or items j e).priority ≡ false

-- no item but the first leaves before the one at its parent's position
abbrev pub IsHeap : List Item → Type 0
IsHeap items = (k : ℕ) → 0 < k → k < length items → IsBehind items k (parent k)

-- a heap but for one position, which may leave before its parent, but not before its children
pub record IsHeapBut (items : List Item) (at : ℕ) : Type 0 where
  pub others : (k : ℕ) → 0 < k → k < length items → k ≢ at → IsBehind items k (parent k)
  pub children : (k : ℕ)
      → 0 < k → k < length items → parent k ≡ at → 0 < at → IsBehind items k (parent at)

-- a heap but for one position, which may leave before its parent, or after its children;
-- these don't leave before that parent
pub record IsHeapAround (items : List Item) (at : ℕ) : Type 0 where
  pub others : (k : ℕ)
      → 0 < k → k < length items → k ≢ at → parent k ≢ at → IsBehind items k (parent k)
  pub above : (k : ℕ)
      → 0 < k → k < length items → parent k ≡ at → 0 < at → IsBehind items k (parent at)

-- a child before which the other child of its parent doesn't leave
pub record IsFirstChild (items : List Item) (at child : ℕ) : Type 0 where
  pub positive : 0 < child
  pub inside : child < length items
  pub of : parent child ≡ at
  pub first : (k : ℕ) → 0 < k → k < length items → parent k ≡ at → IsBehind items k child

-- at each task's number is its position in the array
abbrev pub HasSpots : List Item → List ℕ → Type 0
HasSpots items spots =
    (k : ℕ) (d : Item) (e : ℕ)
    → k < length items
    → ((slice_index_or items k d).task < length spots)
    × (slice_index_or spots (slice_index_or items k d).task e ≡ k)

-- an item of the array is of that task
pub record IsIn (items : List Item) (t : ℕ) : Type 0 where
  pub position : ℕ
  pub inside : position < length items
  pub there : (d : Item) → (slice_index_or items position d).task ≡ t

-- the task isn't in the array
abbrev pub IsAbsent : List Item → ℕ → Type 0
IsAbsent items t = list_any (λ x. x.task == t) items ≡ false

-- the spots of tasks that aren't in the array stay as they were
pub record KeepsOthers (items : List Item) (old new : List ℕ) : Type 0 where
  pub long : length new ≡ length old
  pub same : (t e : ℕ) → IsAbsent items t → slice_index_or new t e ≡ slice_index_or old t e

-- ---- the item of some tasks that leaves first

-- whether an item of that priority leaves before another, if there is one
abbrev pub leads : Priority → Option Item → Bool
leads p None = true
leads p (Some x) = comes_before p x.priority

-- the item if its task is one of them and it leaves before the other one, else the other one
abbrev pub with_leader : (ℕ → Bool) → Item → Option Item → Option Item
with_leader p x other = if p x.task && leads x.priority other then Some x else other

-- the item is at a position below n, its task is one of them, and none of theirs there leaves
-- before it
pub record LeadsBelow (p : ℕ → Bool) (items : List Item) (n : ℕ) (x : Item) : Type 0 where
  pub position : ℕ
  pub inside : position < n
  pub there : (d : Item) → slice_index_or items position d ≡ x
  pub among : IsTrue (p x.task)
  pub first : (k : ℕ) (d : Item)
      → k < n → IsTrue (p (slice_index_or items k d).task)
      → comes_before (slice_index_or items k d).priority x.priority ≡ false

-- that item leads those at positions below n, or none there is of those tasks
abbrev pub HasLeader : (ℕ → Bool) → List Item → ℕ → Option Item → Type 0
HasLeader p items n first =
    MatchOption first
    ((k : ℕ) (d : Item) → k < n → p (slice_index_or items k d).task ≡ false)
    (LeadsBelow p items n)

-- the items with another one at a position, and the spots with that of its task
abbrev pub with_item : List Item → Item → ℕ → List Item
with_item items x k = slice_set items k x

-- the spots with that position for the item's task
abbrev pub with_spot : List ℕ → Item → ℕ → List ℕ
with_spot spots x k = slice_set spots x.task k

-- ---- what a move in the heap costs

-- only these positions hold other items
abbrev pub DiffersAt : List ℕ → List Item → List Item → Type 0
DiffersAt positions old new =
    (k : ℕ) (d : Item)
    → list_any (λ p. p == k) positions ≡ false → slice_index_or new k d ≡ slice_index_or old k d

-- down some levels from a position, one comparison a level at most, to a position without any
-- children; the levels, and both of these, are among the positions that have changed
pub record Fell (old new : List Item) (start at steps : ℕ) : Type 0 where
  pub levels : ℕ
  pub depth : 2 ^ levels * (start + 1) ≤ at + 1
  pub cost : steps ≤ levels
  pub positions : List ℕ
  pub few : length positions ≤ levels + 1
  pub differs : DiffersAt positions old new
  pub top : list_any (λ p. p == start) positions ≡ true
  pub here : list_any (λ p. p == at) positions ≡ true

-- up some levels from a position: one comparison a level at most, and beside that position one a
-- level has changed
pub record Rose (old new : List Item) (start steps : ℕ) : Type 0 where
  pub levels : ℕ
  pub depth : 2 ^ levels ≤ start + 1
  pub cost : steps ≤ levels
  pub positions : List ℕ
  pub few : length positions ≤ levels
  pub differs : (k : ℕ) → k ≢ start → list_any (λ p. p == k) positions ≡ false
      → (d : Item) → slice_index_or new k d ≡ slice_index_or old k d

-- down some levels and then up some: one comparison a level at most, and one position more
-- than levels has changed, from where it began among them
pub record Settled (old new : List Item) (start steps : ℕ) : Type 0 where
  pub down : ℕ
  pub up : ℕ
  pub deep : 2 ^ down ≤ length old
  pub high : 2 ^ up ≤ length old
  pub cost : steps ≤ down + up
  pub positions : List ℕ
  pub few : length positions ≤ down + up + 1
  pub top : list_any (λ p. p == start) positions ≡ true
  pub differs : DiffersAt positions old new

-- all but that number of positions hold the same; one that only one of the arrays has counts
pub record DiffersAtMost (old new : List Item) (most : ℕ) : Type 0 where
  pub positions : List ℕ
  pub few : length positions ≤ most
  pub differs : DiffersAt positions old new

-- where the number of items that there were and one more has that number of binary digits at most,
-- twice as many comparisons and changed positions at most
pub record IsCheap (old new : List Item) (steps : ℕ) : Type 0 where
  pub comparisons : (digits : ℕ) → length old + 1 < 2 ^ digits → steps ≤ 2 * digits
  pub changes : (digits : ℕ) → length old + 1 < 2 ^ digits → DiffersAtMost old new (2 * digits)
