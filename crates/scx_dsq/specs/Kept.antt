-- How the queues are kept: a queue in FIFO order by links from task to task, one by virtual time as
-- a heap; and empty heaps for queues to come. No public clause cites it.
use Rattle.std.specs.Prelude.{◌≡◌, ℕ, ◌+◌, ◌<◌, ◌≤◌, List, [], ◌∷◌, ◌++◌, map, length, slice_index_or, Option, Some, None, is_some, MatchOption, All, HoldsAt, vec_capacity, if◌then◌else◌, Bool, true, false, ◌==◌}
use Rattle.std.specs.List.{list_any}
use Rattle.std.specs.List.Sorted.{IsPermutation}
use Rattle.scx_dsq.specs.declared.entries.Rank.{Rank}
use Rattle.scx_dsq.specs.declared.entries.Rank.TheVariants.{Fifo, Front, Vtime}
use Rattle.scx_dsq.specs.declared.heap.Item.{Item}
use Rattle.scx_dsq.specs.declared.links.Link.{Link}
use Rattle.scx_dsq.specs.declared.queue.Queue.{Queue}
use Rattle.scx_dsq.specs.declared.queues.Queues.TheInside.{Inside}
use Rattle.scx_dsq.specs.declared.errors.QueueError.{QueueError}
use Rattle.scx_dsq.specs.declared.errors.QueueError.TheVariants.{NoSuchQueue, AlreadyThere, Mixed, TooManyQueues}
use Rattle.scx_dsq.specs.Queues.{Entries, QueueState, entry_at}
use Rattle.scx_dsq.specs.Laws.{IsSound}
use Rattle.scx_dsq.specs.Links.{no_ends, link_at, or_else, ends_linked, links_unlinked, ends_unlinked, IsThreaded}
use Rattle.scx_dsq.specs.Heaps.{HeapState, IsHeap, HasSpots, IsAbsent, IsIn, KeepsOthers, first_item}
use Rattle.scx_dsq.specs.Holdings.{Holds}
use Rattle.scx_dsq.specs.Arrays.{QueuesValue}
use Rattle.scx_dsq.specs.Order.{IsOrder}

-- the ids of the queues, in their order
abbrev pub ids_of : List Queue → List ℕ
ids_of live = map (λ q. q.id) live

-- the items in each queue's heap, in the order of the queues
abbrev pub arrays_of : List Queue → List (List Item)
arrays_of live = map (λ q. q.heap.items) live

-- a queue has its tasks between its ends, or in its heap; an empty one may be either
pub data IsOfOneSort (entries : Entries) (links : List Link) (q : Queue) : Type 0 where
  by_links : IsThreaded entries links q.id q.ends → q.heap.items ≡ [] → IsOfOneSort entries links q
  by_heap : Holds entries q.id q.heap.items → q.ends ≡ no_ends → IsOfOneSort entries links q

-- and has room for all tasks that there are
pub record Keeps (entries : Entries) (links : List Link) (spots : List ℕ) (q : Queue) : Type 0 where
  pub tasks : IsOfOneSort entries links q
  pub room : length entries ≤ q.heap.room
  pub heap : IsHeap q.heap.items
  pub placed : HasSpots q.heap.items spots

-- ---- what a queue answers

-- the task that leaves a kept queue first: the first of its links, or else of its heap
abbrev pub front_in : Queue → Option ℕ
front_in q = or_else q.ends.first (first_item q.heap.items)

-- how many tasks a kept queue has: those of its links, or else those of its heap
abbrev pub len_in : Queue → ℕ
len_in q = if is_some q.ends.first then q.ends.count else length q.heap.items

-- a rank of the sort of those who wait, by who is first in order of arrival; the key says nothing
abbrev pub sort_of : Option ℕ → Rank
sort_of None = Vtime 0
sort_of (Some t) = Fifo

-- a rank of the sort of those who wait in a kept queue
abbrev pub sort_in : Queue → Rank
sort_in q = sort_of q.ends.first

-- whether a kept queue has tasks of the other sort than this rank
abbrev pub mixes : Rank → Queue → Bool
mixes Fifo q = is_some (first_item q.heap.items)
mixes Front q = is_some (first_item q.heap.items)
mixes (Vtime k) q = is_some q.ends.first

-- ---- whether a task may go into a queue

-- one is at the position, takes tasks of that rank, and the task waits nowhere
pub record IsAdmitted (live : List Queue) (entries : Entries) (k id t : ℕ) (rank : Rank)
    : Type 0 where
  pub inside : k < length live
  pub is : HoldsAt (λ q. q.id ≡ id) live k
  pub there : list_any (λ other. other == id) (ids_of live) ≡ true
  pub free : entry_at entries t ≡ None
  pub fits : HoldsAt (λ q. mixes rank q ≡ false) live k

-- one has the id, and tasks that wait there in the other way
pub record IsMixed (live : List Queue) (id : ℕ) (rank : Rank) : Type 0 where
  pub entry : ℕ
  pub inside : entry < length live
  pub is : HoldsAt (λ q. q.id ≡ id) live entry
  pub mixed : HoldsAt (λ q. mixes rank q ≡ true) live entry

-- a push is refused for that reason, which is never want of room for a queue
abbrev pub IsRefused : List Queue → Entries → ℕ → ℕ → Rank → QueueError → Type 0
IsRefused live entries id t rank NoSuchQueue = list_any (λ other. other == id) (ids_of live) ≡ false
IsRefused live entries id t rank AlreadyThere =
    (list_any (λ other. other == id) (ids_of live) ≡ true) × (is_some (entry_at entries t) ≡ true)
IsRefused live entries id t rank Mixed =
    (list_any (λ other. other == id) (ids_of live) ≡ true) × (entry_at entries t ≡ None)
    × IsMixed live id rank
IsRefused live entries id t rank TooManyQueues = ⊥

-- ---- a task that enters

-- the task and both ends of the queue have links, and there are more links than tasks in it
pub record CanLink (links : List Link) (q : Queue) (t : ℕ) : Type 0 where
  pub task : t < length links
  pub first : MatchOption q.ends.first (Unit {0}) (λ u. u < length links)
  pub last : MatchOption q.ends.last (Unit {0}) (λ u. u < length links)
  pub count : q.ends.count < length links

-- the queue with that task at its front or at its end
abbrev pub with_linked : Rank → Queue → ℕ → Queue
with_linked rank q t = record q { ends = ends_linked rank q.ends t }

-- the queue's heap has room for the item, whose task has a spot and isn't in it
pub record CanInsert (spots : List ℕ) (q : Queue) (x : Item) : Type 0 where
  pub room : length q.heap.items < q.heap.room
  pub task : x.task < length spots
  pub absent : IsAbsent q.heap.items x.task
  pub placed : HasSpots q.heap.items spots
  pub heap : IsHeap q.heap.items

-- the queue with that item in its heap
pub record Inserted (spots : List ℕ) (q : Queue) (x : Item) (stood : List ℕ) (new : Queue)
    : Type 0 where
  pub id : new.id ≡ q.id
  pub ends : new.ends ≡ q.ends
  pub room : new.heap.room ≡ q.heap.room
  pub heap : IsHeap new.heap.items
  pub placed : HasSpots new.heap.items stood
  pub others : KeepsOthers (q.heap.items ++ x ∷ []) spots stood
  pub same : IsPermutation (q.heap.items ++ x ∷ []) new.heap.items

-- ---- a task that leaves

-- the task and those beside it have links, and the queue counts some
pub record CanUnlink (links : List Link) (q : Queue) (t : ℕ) : Type 0 where
  pub task : t < length links
  pub ahead : MatchOption (link_at links t).ahead (Unit {0}) (λ u. u < length links)
  pub next : MatchOption (link_at links t).next (Unit {0}) (λ u. u < length links)
  pub count : 0 < q.ends.count

-- the queue without that task, which stood among its links
abbrev pub without_linked : List Link → Queue → ℕ → Queue
without_linked links q t = record q { ends = ends_unlinked links q.ends t }

-- the task is in the queue's heap, where each task has its spot
pub record CanTakeOut (spots : List ℕ) (q : Queue) (t : ℕ) : Type 0 where
  pub task : IsIn q.heap.items t
  pub placed : HasSpots q.heap.items spots
  pub heap : IsHeap q.heap.items

-- the task may be taken out of the queue, by the sort of its rank
abbrev pub CanLeave : Rank → List Link → List ℕ → Queue → ℕ → Type 0
CanLeave Fifo links spots q t = CanUnlink links q t
CanLeave Front links spots q t = CanUnlink links q t
CanLeave (Vtime k) links spots q t = CanTakeOut spots q t

-- the task was taken out of the queue's links, and no spot has changed
pub record Unlinked (links : List Link) (spots : List ℕ) (q : Queue) (t : ℕ) (linked : List Link)
    (stood : List ℕ) (new : Queue) : Type 0 where
  pub queue : new ≡ without_linked links q t
  pub threads : linked ≡ links_unlinked links t
  pub stays : stood ≡ spots

-- the item of that task was taken out of the heap
pub record TakenOut (spots : List ℕ) (q : Queue) (t : ℕ) (stood : List ℕ) (new : Queue)
    : Type 0 where
  pub item : Item
  pub task : item.task ≡ t
  pub id : new.id ≡ q.id
  pub ends : new.ends ≡ q.ends
  pub room : new.heap.room ≡ q.heap.room
  pub heap : IsHeap new.heap.items
  pub placed : HasSpots new.heap.items stood
  pub others : KeepsOthers q.heap.items spots stood
  pub same : IsPermutation q.heap.items (item ∷ new.heap.items)
  pub gone : IsAbsent new.heap.items t

-- the task was taken out of the queue, by the sort of its rank
abbrev pub Left : Rank → List Link → List ℕ → Queue → ℕ → List Link → List ℕ → Queue → Type 0
Left Fifo links spots q t linked stood new = Unlinked links spots q t linked stood new
Left Front links spots q t linked stood new = Unlinked links spots q t linked stood new
Left (Vtime k) links spots q t linked stood new = TakenOut spots q t stood new × (linked ≡ links)

-- ---- one as another

-- the queue has the id and the tasks of the other one, and no less room than it had
pub record IsCopy (q other new : Queue) : Type 0 where
  pub id : new.id ≡ other.id
  pub ends : new.ends ≡ other.ends
  pub items : new.heap.items ≡ other.heap.items
  pub room : q.heap.room ≤ new.heap.room

-- at each position the queue is a copy of the other one there
abbrev pub AreCopies : List Queue → List Queue → List Queue → Type 0
AreCopies live others new =
    (k : ℕ) (d : Queue)
    → k < length live
    → IsCopy (slice_index_or live k d) (slice_index_or others k d) (slice_index_or new k d)

-- a queue of no tasks, with room for that number of them
abbrev pub blank : ℕ → Queue
blank tasks = record { id = 0; ends = no_ends; heap = record { room = tasks; items = [] } }

-- at the positions below the second number, the new queue is the one there, with room for as
-- many tasks as the first says
abbrev pub AreSameBelow : ℕ → ℕ → List Queue → List Queue → Type 0
AreSameBelow tasks count live new =
    (k : ℕ) (d : Queue)
    → k < count
    → IsCopy (blank tasks) (slice_index_or live k d) (slice_index_or new k d)

-- at each position
abbrev pub AreSame : ℕ → List Queue → List Queue → Type 0
AreSame tasks live new = AreSameBelow tasks (length live) live new

-- at each position the heap of the first queue has room for that of the second one
abbrev pub HaveRoomFor : List Queue → List Queue → Type 0
HaveRoomFor live others =
    (k : ℕ) (d : Queue)
    → k < length live
    → length (slice_index_or others k d).heap.items ≤ (slice_index_or live k d).heap.room

-- ---- all of them

-- an empty heap with room for all tasks that there are
abbrev pub IsSpare : Entries → HeapState → Type 0
IsSpare entries h = (h.items ≡ []) × (length entries ≤ h.room)

-- the state that the fields of `Queues` represent
abbrev pub state_of : Inside → QueueState
state_of i = record {
  room = length i.live.items + length i.spare.items;
  ids = ids_of i.live.items;
  entries = i.entries.items;
  pushes = i.pushes;
}

-- what the fields of `Queues` represent in contracts: the state and the arrays
abbrev pub value_of : Inside → QueuesValue
value_of i = record { state = state_of i; arrays = arrays_of i.live.items }

-- what always holds of the fields of `Queues`
pub record IsKept (i : Inside) : Type 0 where
  pub sound : IsSound (state_of i)
  pub live : All (Keeps i.entries.items i.links.items i.spots.items) i.live.items
  pub order : IsOrder (ids_of i.live.items) i.order.items
  pub spare : All (IsSpare i.entries.items) i.spare.items
  pub room : length i.live.items + length i.spare.items ≤ vec_capacity i.live
  pub orders : length i.order.items + length i.spare.items ≤ vec_capacity i.order
  pub links : length i.links.items ≡ length i.entries.items
  pub spots : length i.spots.items ≡ length i.entries.items
