-- What the fields of a world mean, and what always holds of them.
use Rattle.std.specs.Prelude.{◌≡◌, ◌≢◌, ℕ, zero, suc, Bool, true, false, ◌+◌, ◌^◌, ◌<◌, ◌≤◌, ◌&&◌, not, ◌==◌, if◌then◌else◌, List, [], ◌∷◌, ◌++◌, take, length, Option, Some, None, is_none, is_some, slice_index_or, vec_capacity}
use Rattle.std.specs.Int.{w64, bit_at, trailing_zeros}
use Rattle.scx_dsq.specs.Laws.{one_if}
use Rattle.scx_dsq.specs.Queues.{QueueState, task_count, queue_of}
use Rattle.scx_weights.specs.Hierarchy.{Hierarchy}
use Rattle.scx_weights.specs.Limits as limits
use Rattle.scx_sched_world.specs.Ids.{global, held_queue, builtin_queue, parked_queue, local_on}
use Rattle.scx_sched_world.specs.declared.world.World.TheInside.{Inside}
use Rattle.scx_sched_world.specs.World.{WorldState, are_linux, is_this, is_idle, is_free, is_throttled}
use Rattle.scx_sched_world.specs.Pending.{is_pending}
use Rattle.scx_sched_world.specs.Calls.{call_of}

-- the state that a world's fields represent, without what is kept beside to find answers sooner
abbrev pub state_of : Inside → WorldState
state_of w = record {
  clock = w.clock;
  tasks = w.tasks;
  cpus = w.cpus.items;
  cycling = w.cycling;
  passing = w.passing;
  rules = w.rules;
  claimed = w.claimed;
  kicked = w.kicked;
  preempted = w.preempted;
  tracks_idle = w.tracks_idle;
  timers = w.timers.items;
  random = w.random;
  queues = w.queues.state;
  tree = w.tree;
  call = call_of w.call;
  builtin_clock = w.builtin_clock;
  ejected = w.ejected;
  notes = w.notes.items;
}

-- these bits are set where a task runs, one bit a processor
abbrev pub AreBusy : ℕ → List (Option ℕ) → Type 0
AreBusy bits cpus =
    (c : ℕ) → c < length cpus → bit_at bits c ≡ one_if (is_some (slice_index_or cpus c None))

-- at the number of each task these bits are set where it runs, one bit a processor
abbrev pub AreOn : List ℕ → List (Option ℕ) → Type 0
AreOn bits cpus =
    (t c : ℕ) → t < length bits → c < 64
    → bit_at (slice_index_or bits t 0) c ≡ one_if (is_this t (slice_index_or cpus c None))

-- the position of the lowest bit that is set, from 0; none where none is
abbrev pub lowest_bit : ℕ → Option ℕ
lowest_bit bits = if bits == 0 then None else Some (trailing_zeros w64 bits)

-- these bits are set where a processor isn't idle
abbrev pub AreOccupied : ℕ → WorldState → Type 0
AreOccupied bits w = (c : ℕ) → c < length w.cpus → bit_at bits c ≡ one_if (not (is_idle w c))

-- these bits are set where a processor isn't free
abbrev pub AreTaken : ℕ → WorldState → Type 0
AreTaken bits w = (c : ℕ) → c < length w.cpus → bit_at bits c ≡ one_if (not (is_free w c))

-- these bits are set where the test holds, one bit a processor
abbrev pub AreSetFor : ℕ → WorldState → (ℕ → Bool) → Type 0
AreSetFor bits w p = (c : ℕ) → c < length w.cpus → c < 64 → bit_at bits c ≡ one_if (p c)

-- each processor that is to look for work is among these, one bit a processor
abbrev pub HoldPending : ℕ → WorldState → Type 0
HoldPending bits w = (c : ℕ) → c < length w.cpus → bit_at bits c ≡ 0 → is_pending w c ≡ false

-- nobody waits in that queue
abbrev pub IsEmpty : QueueState → ℕ → Type 0
IsEmpty s q = (t : ℕ) → queue_of s t ≢ Some q

-- a processor on which nobody runs, whose bit is clear and on which no cycle is under way has
-- nobody in its local queue
abbrev pub AreSettled : ℕ → List (Option ℕ) → Option ℕ → QueueState → Type 0
AreSettled bits cpus cycling s =
    (c : ℕ) → c < length cpus → bit_at bits c ≡ 0 → slice_index_or cpus c None ≡ None
    → cycling ≢ Some c → IsEmpty s (local_on c)

-- who is parked is throttled
abbrev pub AreThrottled : QueueState → Hierarchy → Type 0
AreThrottled queues tree =
    (t : ℕ) → queue_of queues t ≡ Some parked_queue → limits.is_throttled tree t ≡ true

-- the task may not run, if it is parked
abbrev pub StaysParked : WorldState → ℕ → Type 0
StaysParked w t = queue_of w.queues t ≡ Some parked_queue → is_throttled w t ≡ true

-- who is parked may not run
abbrev pub NobodyIsFree : WorldState → Type 0
NobodyIsFree w = (t : ℕ) → StaysParked w t

-- the ids of the machine's own queues, by the number of local ones, as they are created
abbrev pub own_ids : ℕ → List ℕ
own_ids zero = global ∷ held_queue ∷ builtin_queue ∷ parked_queue ∷ []
own_ids (suc n) = own_ids n ++ local_on n ∷ []

-- the machine's own queues come first, in that order
abbrev pub StandFirst : QueueState → ℕ → Type 0
StandFirst s cpus = take (4 + cpus) s.ids ≡ own_ids cpus

-- there is room for the notes of a callback, each part knows of as many tasks, the clock in
-- nanoseconds is a number of 64 bits, own queues are found by their places, who is parked is
-- throttled where that is known, whose rules are in force is known, and under Linux rules idle
-- processors have empty local queues where that is known
pub record IsKept (w : Inside) : Type 0 where
  pub notes : 4096 ≤ vec_capacity w.notes
  pub few_notes : length w.notes.items ≤ 4096
  pub queued : task_count w.queues.state ≡ length w.tasks
  pub weighed : length w.tree.homes ≡ length w.tasks
  pub few_tasks : length w.tasks ≤ 1024
  pub few_cpus : length w.cpus.items ≤ 64
  pub few_timers : length w.timers.items ≤ 255
  pub busy : AreBusy w.busy w.cpus.items
  pub running : AreOn w.running_on.items w.cpus.items
  pub known_running : length w.running_on.items ≡ length w.tasks
  pub places : StandFirst w.queues.state (length w.cpus.items)
  pub early : w.clock ≤ 2 ^ 32
  pub parked : w.parked_throttled ≡ true → AreThrottled w.queues.state w.tree
  pub linux : w.by_linux ≡ (are_linux w.rules && is_none w.ejected)
  pub settled : w.by_linux ≡ true
      → AreSettled w.unsettled w.cpus.items w.cycling w.queues.state
