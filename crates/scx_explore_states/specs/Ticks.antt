-- Ticks of a CPU until the slice of its task ends.
use Rattle.std.specs.Prelude.{ℕ, ◌+◌, ◌/◌, ◌%◌, min, max, if◌then◌else◌, Option, Some, None}
use Rattle.scx_sched_world.specs.World.{WorldState, task_at, running}
use Rattle.scx_sched_machine.specs.declared.events.Event.{Event}
use Rattle.scx_sched_machine.specs.declared.events.Event.TheVariants.{Tick}
use Rattle.scx_sched.specs.Sim.{SimState}
use Rattle.scx_explore_states.specs.Rows.{is_endless}

-- how many ticks a slice lasts, of a millisecond each, counted up; one that never ends or has run
-- out counts as one
abbrev pub ticks_left : ℕ → ℕ
ticks_left n = if is_endless n then 1 else max (n / 1000000 + min 1 (n % 1000000)) 1

-- the same of the task of a CPU, if one runs there
abbrev pub ticks_of : WorldState → Option ℕ → ℕ
ticks_of w None = 1
ticks_of w (Some t) = ticks_left (task_at w t).slice

-- how often the event comes in a row: a tick until the slice of the CPU's task has ended
abbrev pub times : SimState → Event → ℕ
times s (Tick c) = ticks_of s.state.world (running s.state.world c)
times s e = 1
