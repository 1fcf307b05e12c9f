-- The tasks that a driver watches: those that may have run as long as they run at once. As tasks go
-- to sleep it looks at no other.
use Rattle.std.specs.Prelude.{ℕ, ◌+◌, ◌-◌, ◌*◌, ◌^◌, min, Bool, true, false, not, ◌&&◌, ◌==◌, nat_le, List, [], ◌∷◌, ◌++◌, length, Option, Some, None, slice_index, slice_index_or, slice_set, if◌then◌else◌}
use Rattle.scx_sched_world.specs.World.{WorldState, task_at, running}
use Rattle.scx_sched_world.specs.Tasks.{tick_ns}
use Rattle.scx_sched_machine.specs.declared.events.Event.{Event}
use Rattle.scx_sched_machine.specs.declared.events.Event.TheVariants as event
use Rattle.scx_sched.specs.Sim.{SimState, after_event}
use Rattle.scx_load_workloads.specs.declared.workload.Timing.{Timing}
use Rattle.scx_load_workloads.specs.Workload.{timing_at}
use Rattle.scx_load_driver.specs.Runs.{stepped_all}
use Rattle.scx_load_driver.specs.Blocks.{Plan, Memory, Block, Sleeps, events_below, set_below, has_run_enough, may_sleep, block_events, memory_after}

-- true if the task is watched; none is past the end
abbrev pub is_watched : List Bool → ℕ → Bool
is_watched watched t = slice_index_or watched t false

-- ---- from event to event

-- the run time from which a task lacks one tick at most, by the milliseconds that it runs at once
-- and its run time at its last wake; a task that runs 0 at once never sleeps
abbrev pub last_tick : ℕ → ℕ → ℕ
last_tick run ran = if run == 0 then 2 ^ 64 - 1 else min (2 ^ 64 - 1) (ran + tick_ns * (run - 1))

-- the run time from which each task lacks one tick at most
abbrev pub last_ticks_of : List Timing → List ℕ → List ℕ
last_ticks_of [] ran = []
last_ticks_of (t ∷ ts) [] = last_tick t.run 0 ∷ last_ticks_of ts []
last_ticks_of (t ∷ ts) (r ∷ rs) = last_tick t.run r ∷ last_ticks_of ts rs

-- the task is watched once its run time is that of the list
abbrev pub watched_if : List ℕ → WorldState → ℕ → List Bool → List Bool
watched_if last w t watched =
    if nat_le (slice_index last t) (task_at w t).run_ns then slice_set watched t true else watched

-- the task that runs on a CPU that ticks is watched, if it lacks at most that tick
abbrev pub watched_at_tick : List ℕ → WorldState → Option ℕ → List Bool → List Bool
watched_at_tick last w None watched = watched
watched_at_tick last w (Some t) watched = watched_if last w t watched

-- the watched tasks after an event
abbrev pub watched_after : List ℕ → WorldState → Event → List Bool → List Bool
watched_after last w (event.Tick c) watched = watched_at_tick last w (running w c) watched
watched_after last w e watched = watched

-- the watched tasks after these events
abbrev pub watched_after_all : List ℕ → SimState → List Event → List Bool → List Bool
watched_after_all last s [] watched = watched
watched_after_all last s (e ∷ es) watched =
    watched_after_all last (after_event s e) es (watched_after last s.state.world e watched)

-- ---- from block to block

-- the task is watched, and has run enough
abbrev pub is_seen : List Timing → List ℕ → List Bool → WorldState → ℕ → Bool
is_seen timings ran watched w t = is_watched watched t && has_run_enough timings ran w t

-- the task is seen to have run enough, and may go to sleep
abbrev pub is_seen_off : List Timing → List ℕ → List Bool → WorldState → ℕ → Bool
is_seen_off timings ran watched w t = is_seen timings ran watched w t && may_sleep w t

-- the tasks that are seen to have run enough go to sleep if they may, by number
abbrev pub sleeps_seen : List Timing → List ℕ → List Bool → WorldState → List Event
sleeps_seen timings ran watched w =
    events_below (length timings) (is_seen_off timings ran watched w) event.Sleep

-- each of these tasks wakes once its sleep is over
abbrev pub due_seen : List Timing → List ℕ → List ℕ → List Bool → ℕ → WorldState → List ℕ
due_seen timings due ran watched m w =
    set_below (length timings) (is_seen_off timings ran watched w)
    (λ t. m + 1 + (timing_at timings t).sleep) due

-- the tasks that have run enough are watched still, the others no more
abbrev pub watched_still : List Timing → List ℕ → List Bool → WorldState → List Bool
watched_still timings ran watched w =
    set_below (length timings) (λ t. not (is_seen timings ran watched w t)) (λ t. false) watched

-- the events of a block that begins in that world, for a driver that watches these
abbrev pub block_seen : Plan → Block → Memory → List Bool → WorldState → List Event
block_seen p (Sleeps m) k watched w = sleeps_seen p.timings k.ran watched w
block_seen p b k watched w = block_events p b k w

-- the memory of such a driver after that block
abbrev pub memory_seen : Plan → Block → Memory → List Bool → WorldState → Memory
memory_seen p (Sleeps m) k watched w =
    record { due = due_seen p.timings k.due k.ran watched m w; ran = k.ran }
memory_seen p b k watched w = memory_after p b k w

-- and the tasks that it watches then
abbrev pub watched_in : Plan → Block → Memory → List Bool → WorldState → List Bool
watched_in p (Sleeps m) k watched w = watched_still p.timings k.ran watched w
watched_in p b k watched w = watched

-- the events of these blocks, from a state on, for a driver that watches these
abbrev pub events_seen : Plan → List Block → Memory → List Bool → SimState → List Event
events_seen p [] k watched s = []
events_seen p (b ∷ bs) k watched s =
    let es = block_seen p b k watched s.state.world in
    let after = memory_seen p b k watched s.state.world in
    let still = watched_in p b k watched s.state.world in
    es
    ++ events_seen p bs after (watched_after_all (last_ticks_of p.timings after.ran) s es still)
    (stepped_all s es)
