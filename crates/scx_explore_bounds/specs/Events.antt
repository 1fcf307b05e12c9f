-- The events of changes of weights, and the most events of a list.
use Rattle.std.specs.Prelude.{ℕ, ◌+◌, ◌*◌, ◌-◌, ◌^◌, min, List, Option, option_map, slice_get}
use Rattle.scx_load_workloads.specs.declared.workload.Change.{Change}
use Rattle.scx_load_workloads.specs.declared.workload.Weighed.{Weighed}
use Rattle.scx_load_workloads.specs.declared.workload.Weighed.TheVariants as which
use Rattle.scx_sched_machine.specs.declared.events.Event.{Event}
use Rattle.scx_sched_machine.specs.declared.events.Event.TheVariants.{SetWeight, SetTaskWeight}
use Rattle.scx_explore_bounds.specs.declared.bounds.Bounds.{Bounds}
use Rattle.scx_explore_bounds.specs.declared.bounds.Mode.{Mode}
use Rattle.scx_explore_bounds.specs.declared.bounds.Mode.TheVariants.{Events, Milliseconds, Workloads}

-- a group or a task gets that weight
abbrev pub weighing : Weighed → ℕ → Event
weighing (which.Group g) x = SetWeight g x
weighing (which.Task t) x = SetTaskWeight t x

-- the group or the task of a change gets its weight
abbrev pub event_of : Change → Event
event_of c = weighing c.weighed c.weight

-- the event of the change of that number
abbrev pub change_at : List Change → ℕ → Option Event
change_at cs k = option_map event_of (slice_get cs k)

-- the most events of a step of a machine with these tasks and CPUs: in a millisecond each
-- task may wake and go to sleep, each processor ticks, and the clock grows
abbrev pub most_of_step : Mode → ℕ → ℕ → ℕ
most_of_step Events tasks cpus = 1
most_of_step Milliseconds tasks cpus = 2 * tasks + cpus + 1
most_of_step Workloads tasks cpus = 2 * tasks + cpus + 1

-- the most events of a list, as far as they can be counted
abbrev pub most_events : Bounds → ℕ → ℕ → ℕ
most_events b tasks cpus = min (b.depth * most_of_step b.mode tasks cpus) (2 ^ 64 - 1)
