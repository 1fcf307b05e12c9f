-- A driver: the remaining events of a workload.
use Rattle.std.specs.Prelude.{ℕ, ◌+◌, ◌≡◌, ◌≤◌, Bool, true, false, not, ◌&&◌, nat_lt, List, [], ◌∷◌, ◌++◌, drop, length, vec_capacity, ◌<◌}
use Rattle.scx_sched_machine.specs.declared.events.Event.{Event}
use Rattle.scx_sched.specs.Sim.{SimState}
use Rattle.scx_load_workloads.specs.Workload.{max_ms, timing_at}
use Rattle.scx_load_driver.specs.declared.driver.Phase.{Phase}
use Rattle.scx_load_driver.specs.declared.driver.Phase.TheVariants as phase
use Rattle.scx_load_driver.specs.declared.driver.Driver.TheInside.{Inside}
use Rattle.scx_load_driver.specs.Runs.{stepped_all}
use Rattle.scx_load_driver.specs.Blocks.{Plan, Memory, Block, Changes, Wakes, Ticks, Sleeps, Clock, ticks_of}
use Rattle.scx_load_driver.specs.Changes.{AreOrdered, IsComing}
use Rattle.scx_load_driver.specs.Calendar.{IsWhole, AreNoted}
use Rattle.scx_load_driver.specs.Watch.{is_watched, last_ticks_of, watched_after, watched_after_all, block_seen, memory_seen, watched_in, events_seen}
use Rattle.scx_load_driver.specs.Events.{blocks_from}

-- the remaining events of the block at hand, and the blocks after it
pub record DriverState : Type 0 where
  pub plan : Plan
  pub pending : List Event
  pub blocks : List Block
  pub memory : Memory
  pub watched : List Bool  -- for each task whether it is watched

-- the remaining events, from that state on
abbrev pub remaining : DriverState → SimState → List Event
remaining d s =
    let last = last_ticks_of d.plan.timings d.memory.ran in
    let watched = watched_after_all last s d.pending d.watched in
    d.pending ++ events_seen d.plan d.blocks d.memory watched (stepped_all s d.pending)

-- true if a list has no items
abbrev pub is_empty : {A : Type 0} → List A → Bool
is_empty [] = true
is_empty (x ∷ xs) = false

-- the driver once it answered that event, with these of the block at hand still to come
abbrev pub after_answer : DriverState → SimState → Event → List Event → DriverState
after_answer d s e es =
    record d {
      pending = es;
      watched =
          watched_after (last_ticks_of d.plan.timings d.memory.ran) s.state.world e d.watched;
    }

-- the driver as the first of these blocks begins, with the others after it; as it is where
-- there is none
abbrev pub at_first_block : List Block → DriverState → SimState → DriverState
at_first_block [] d s = d
at_first_block (b ∷ bs) d s = record d {
  pending = block_seen d.plan b d.memory d.watched s.state.world;
  blocks = bs;
  memory = memory_seen d.plan b d.memory d.watched s.state.world;
  watched = watched_in d.plan b d.memory d.watched s.state.world;
}

-- the driver as its next block begins; it stays as it is where no block is left
abbrev pub at_next_block : DriverState → SimState → DriverState
at_next_block d s = at_first_block d.blocks d s

-- ---- the blocks of a millisecond, in their order

-- the number of a block
abbrev pub phase_number : Phase → ℕ
phase_number phase.Changes = 0
phase_number phase.Wakes = 1
phase_number phase.Ticks = 2
phase_number phase.Sleeps = 3
phase_number phase.Clock = 4

-- the number of the block that comes next; a greater one where none is left
abbrev pub next_number : List Block → ℕ
next_number [] = 5
next_number (Changes m ∷ bs) = 0
next_number (Wakes m ∷ bs) = 1
next_number (Ticks ∷ bs) = 2
next_number (Sleeps m ∷ bs) = 3
next_number (Clock ∷ bs) = 4

-- ---- fields

-- the blocks from that one of millisecond m on, where this number of milliseconds isn't over
abbrev pub blocks_left : Phase → ℕ → ℕ → List Block
blocks_left p m left = drop (phase_number p) (blocks_from left m)

-- the millisecond before which no task wakes any more
abbrev pub woken_before : Phase → ℕ → ℕ
woken_before phase.Changes m = m
woken_before phase.Wakes m = m
woken_before phase.Ticks m = m + 1
woken_before phase.Sleeps m = m + 1
woken_before phase.Clock m = m + 1

-- the millisecond before which no weight changes any more
abbrev pub changed_before : Phase → ℕ → ℕ
changed_before phase.Changes m = m
changed_before phase.Wakes m = m + 1
changed_before phase.Ticks m = m + 1
changed_before phase.Sleeps m = m + 1
changed_before phase.Clock m = m + 1

-- no event comes before the clock: the sleeps are over, or no task may be watched
abbrev pub is_clock_next : Phase → Bool → Bool
is_clock_next phase.Changes some = false
is_clock_next phase.Wakes some = false
is_clock_next phase.Ticks some = false
is_clock_next phase.Sleeps some = not some
is_clock_next phase.Clock some = true

-- no event comes before the ticks: the wakes are over, or a millisecond begins in which no weight
-- changes and no task wakes
abbrev pub are_ticks_next : Phase → ℕ → ℕ → ℕ → Bool
are_ticks_next phase.Changes m change wake = nat_lt m change && nat_lt m wake
are_ticks_next phase.Wakes m change wake = false
are_ticks_next phase.Ticks m change wake = true
are_ticks_next phase.Sleeps m change wake = false
are_ticks_next phase.Clock m change wake = false

-- no task is watched where none may be
abbrev pub AreUnwatched : Bool → List Bool → Type 0
AreUnwatched some watched = some ≡ false → (t : ℕ) → is_watched watched t ≡ false

-- the state that a driver's fields mean: events that are pending, blocks after them, memory,
-- and the watched tasks
abbrev pub state_of : Inside → DriverState
state_of d = record {
  plan = record { cpus = d.cpus; timings = d.timings.items; changes = d.changes.items };
  pending = drop d.cpu (ticks_of d.cpus) ++ drop d.taken d.events.items;
  blocks = blocks_left d.phase d.clock d.left;
  memory = record { due = d.due.items; ran = d.ran.items };
  watched = d.watched;
}

-- there is room for the events of a block, no time grows out of its range, and all events before
-- the ticks are taken once these begin
pub record IsKept (d : Inside) : Type 0 where
  pub room : 1024 ≤ vec_capacity d.events
  pub taken : d.taken ≤ length d.events.items
  pub ticked : d.phase ≡ phase.Sleeps → d.taken ≡ length d.events.items
  pub few_cpus : d.cpus ≤ 64
  pub cpu : d.cpu ≤ d.cpus
  pub few_tasks : length d.timings.items ≤ 1024
  pub few_changes : length d.changes.items ≤ 1024
  pub due : length d.due.items ≡ length d.timings.items
  pub ran : length d.ran.items ≡ length d.timings.items
  pub last : d.last_ticks.items ≡ last_ticks_of d.timings.items d.ran.items
  pub watched : length d.watched ≡ length d.timings.items
  pub times : d.clock + d.left ≤ max_ms
  pub sleeps : (t : ℕ) → t < length d.timings.items → (timing_at d.timings.items t).sleep ≤ max_ms
  pub ordered : AreOrdered d.changes.items
  pub coming : IsComing d.changes.items (changed_before d.phase d.clock) d.coming d.next_change
  pub whole : IsWhole d.calendar
  pub noted : AreNoted d.due.items (woken_before d.phase d.clock) d.calendar
  pub unwatched : AreUnwatched d.some_watched d.watched
