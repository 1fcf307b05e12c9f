-- The events of a workload: for each millisecond the changes of weights, the tasks that wake, a
-- tick of each processor, the tasks that go to sleep, and the clock.
use Rattle.std.specs.Prelude.{ℕ, zero, suc, ◌+◌, List, [], ◌∷◌, ◌++◌, length, map, replicate}
use Rattle.scx_sched_machine.specs.declared.events.Event.{Event}
use Rattle.scx_sched.specs.Sim.{SimState}
use Rattle.scx_load_workloads.specs.declared.workload.Timing.{Timing}
use Rattle.scx_load_workloads.specs.Workload.{WorkloadState}
use Rattle.scx_load_driver.specs.Runs.{stepped_all}
use Rattle.scx_load_driver.specs.Blocks.{Plan, Memory, Block, Changes, Wakes, Ticks, Sleeps, Clock, block_events, memory_after}

-- the blocks of this number of milliseconds from m on
abbrev pub blocks_from : ℕ → ℕ → List Block
blocks_from zero m = []
blocks_from (suc n) m = Changes m ∷ Wakes m ∷ Ticks ∷ Sleeps m ∷ Clock ∷ blocks_from n (m + 1)

-- the events of these blocks, from a state on
abbrev pub events_from : Plan → List Block → Memory → SimState → List Event
events_from p [] k s = []
events_from p (b ∷ bs) k s =
    block_events p b k s.state.world
    ++ events_from p bs (memory_after p b k s.state.world)
    (stepped_all s (block_events p b k s.state.world))

-- the plan of a workload: its CPUs, the times of each task, and changes of weights
abbrev pub plan_of : WorkloadState → Plan
plan_of w = record { cpus = w.cpus; timings = w.timings; changes = w.changes }

-- no task has run, and each wakes at its start
abbrev pub first_memory : List Timing → Memory
first_memory timings =
    record { due = map (λ (t : Timing). t.start) timings; ran = replicate (length timings) 0 }

-- the events of a workload, from a first state on
abbrev pub workload_events : WorkloadState → SimState → List Event
workload_events w s = events_from (plan_of w) (blocks_from w.ms 0) (first_memory w.timings) s
