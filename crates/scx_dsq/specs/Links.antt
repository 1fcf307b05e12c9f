-- Queues in order of arrival as lists threaded through one array, which has at a task's number the
-- tasks right before and right after it. No public clause cites it.
use Rattle.std.specs.Prelude.{◌≡◌, ℕ, ◌+◌, ◌-◌, ◌⊎◌, List, slice_index_or, slice_set, Option, Some, None, MatchOption, count_by, IsTrue, ◌≤ℤ◌, ◌<ℤ◌}
use Rattle.scx_dsq.specs.declared.entries.Rank.{Rank}
use Rattle.scx_dsq.specs.declared.entries.Rank.TheVariants.{Fifo, Front, Vtime}
use Rattle.scx_dsq.specs.declared.entries.Entry.{Entry}
use Rattle.scx_dsq.specs.declared.links.Link.{Link}
use Rattle.scx_dsq.specs.declared.links.Ends.{Ends}
use Rattle.scx_dsq.specs.Entries.{same_sort, turn}
use Rattle.scx_dsq.specs.Queues.{Entries, entry_at, is_in}

-- a link without a task ahead and without a next one
abbrev pub no_link : Link
no_link = record { ahead = None; next = None }

-- the ends of an empty queue
abbrev pub no_ends : Ends
no_ends = record { first = None; last = None; count = 0 }

-- the link of a task, by its number; no task ahead and no next one where there is none
abbrev pub link_at : List Link → ℕ → Link
link_at links t = slice_index_or links t no_link

-- ---- changes

-- the links with another task ahead of one, if there is one
abbrev pub with_ahead : List Link → Option ℕ → Option ℕ → List Link
with_ahead links None ahead = links
with_ahead links (Some t) ahead = slice_set links t (record {
  ahead = ahead;
  next = (link_at links t).next;
})

-- the links with another task next after one, if there is one
abbrev pub with_next : List Link → Option ℕ → Option ℕ → List Link
with_next links None next = links
with_next links (Some t) next = slice_set links t (record {
  ahead = (link_at links t).ahead;
  next = next;
})

-- the first task, or the second where there is no first
abbrev pub or_else : Option ℕ → Option ℕ → Option ℕ
or_else None other = other
or_else (Some t) other = Some t

-- one of two, by whether there is a task
abbrev pub instead : Option ℕ → Option ℕ → Option ℕ → Option ℕ
instead None if_not if_so = if_not
instead (Some t) if_not if_so = if_so

-- a task put at the end
abbrev pub links_appended : List Link → Ends → ℕ → List Link
links_appended links ends t =
    with_next (slice_set links t (record { ahead = ends.last; next = None })) ends.last (Some t)

-- the ends of a queue with that task put at its end
abbrev pub ends_appended : Ends → ℕ → Ends
ends_appended ends t =
    record { first = instead ends.last (Some t) ends.first; last = Some t; count = ends.count + 1 }

-- a task put at the front
abbrev pub links_prepended : List Link → Ends → ℕ → List Link
links_prepended links ends t =
    with_ahead (slice_set links t (record { ahead = None; next = ends.first })) ends.first
    (Some t)

-- the ends of a queue with that task put at its front
abbrev pub ends_prepended : Ends → ℕ → Ends
ends_prepended ends t =
    record { first = Some t; last = instead ends.first (Some t) ends.last; count = ends.count + 1 }

-- a task put at the front by that rank, else at the end
abbrev pub links_linked : Rank → List Link → Ends → ℕ → List Link
links_linked Fifo links ends t = links_appended links ends t
links_linked Front links ends t = links_prepended links ends t
links_linked (Vtime key) links ends t = links_appended links ends t

-- the ends of a queue with that task put there
abbrev pub ends_linked : Rank → Ends → ℕ → Ends
ends_linked Fifo ends t = ends_appended ends t
ends_linked Front ends t = ends_prepended ends t
ends_linked (Vtime key) ends t = ends_appended ends t

-- a task taken out: those beside it are linked to each other
abbrev pub links_unlinked : List Link → ℕ → List Link
links_unlinked links t =
    with_next (with_ahead links (link_at links t).next (link_at links t).ahead)
    (link_at links t).ahead (link_at links t).next

-- the ends of a queue with that task taken out
abbrev pub ends_unlinked : List Link → Ends → ℕ → Ends
ends_unlinked links ends t = record {
  first = instead (link_at links t).ahead (link_at links t).next ends.first;
  last = instead (link_at links t).next (link_at links t).ahead ends.last;
  count = ends.count - 1;
}

-- ---- what the links mean

-- the task waits in the queue, by that entry
abbrev pub In : Entries → ℕ → ℕ → Entry → Type 0
In entries id t p = (entry_at entries t ≡ Some p) × (p.queue ≡ id)

-- the task waits in the queue, in order of arrival
pub record WaitsInOrder (entries : Entries) (id t : ℕ) : Type 0 where
  pub entry : Entry
  pub waits : In entries id t entry
  pub fifo : IsTrue (same_sort entry.rank Fifo)

-- all that wait in the queue wait in order of arrival
abbrev pub AreInOrder : Entries → ℕ → Type 0
AreInOrder entries id = (t : ℕ) (p : Entry) → In entries id t p → IsTrue (same_sort p.rank Fifo)

-- no task waits in the queue
abbrev pub NobodyIsIn : Entries → ℕ → Type 0
NobodyIsIn entries id = (t : ℕ) (p : Entry) → In entries id t p → ⊥

-- the task waits in the queue, and none there has an earlier turn
pub record HasFirstTurn (entries : Entries) (id t : ℕ) : Type 0 where
  pub entry : Entry
  pub waits : In entries id t entry
  pub first : (u : ℕ) (q : Entry) → In entries id u q → turn entry ≤ℤ turn q

-- the task waits in the queue, and none there has a later turn
pub record IsLast (entries : Entries) (id t : ℕ) : Type 0 where
  pub entry : Entry
  pub waits : In entries id t entry
  pub last : (u : ℕ) (q : Entry) → In entries id u q → turn q ≤ℤ turn entry

-- the second task waits right after the first
pub record IsNext (entries : Entries) (id t u : ℕ) : Type 0 where
  pub entry : Entry
  pub entry_behind : Entry
  pub waits : In entries id t entry
  pub waits_behind : In entries id u entry_behind
  pub before : turn entry <ℤ turn entry_behind
  pub none_between : (v : ℕ) (q : Entry)
      → In entries id v q → (turn q ≤ℤ turn entry) ⊎ (turn entry_behind ≤ℤ turn q)

-- links and ends of a queue lead through the tasks that wait there, all in order of arrival
pub record IsThreaded (entries : Entries) (links : List Link) (id : ℕ) (ends : Ends) : Type 0 where
  pub first : MatchOption ends.first (NobodyIsIn entries id) (HasFirstTurn entries id)
  pub last : MatchOption ends.last (NobodyIsIn entries id) (IsLast entries id)
  pub ahead : (t : ℕ) (p : Entry)
      → In entries id t p
      → MatchOption (link_at links t).ahead (HasFirstTurn entries id t)
      (λ u. IsNext entries id u t)
  pub next : (t : ℕ) (p : Entry)
      → In entries id t p
      → MatchOption (link_at links t).next (IsLast entries id t) (IsNext entries id t)
  pub count : ends.count ≡ count_by (is_in id) entries
  pub sort : AreInOrder entries id
