-- Events that are tried several times in a row.
use Rattle.std.specs.Prelude.{ℕ, ◌*◌, ◌-◌, ◌^◌, min, Bool, if◌then◌else◌}
use Rattle.scx_sched_machine.specs.declared.events.Event.{Event}
use Rattle.scx_sched.specs.Sim.{SimState}
use Rattle.scx_explore_states.specs.Ticks.{times}
use Rattle.scx_explore_bounds.specs.declared.bounds.Bounds.{Bounds}
use Rattle.scx_explore_bounds.specs.Events.{most_events}

-- once where states keep slices, and else a tick until the slice of the CPU's task has ended
abbrev pub times_in : Bool → SimState → Event → ℕ
times_in slices s e = if slices then 1 else times s e

-- the most ticks in a row
abbrev pub most_ticks : Bool → ℕ
most_ticks slices = if slices then 1 else 8192

-- the most events of a list within the bounds, each as often as it may come in a row, as far as
-- they can be counted
abbrev pub most_in_rows : Bool → Bounds → ℕ → ℕ → ℕ
most_in_rows slices b tasks cpus =
    min (most_events b tasks cpus * most_ticks slices) (2 ^ 64 - 1)
