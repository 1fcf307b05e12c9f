-- The moves that are tried in a state: those of which lists are made, or ticks of a CPU until the
-- slice of its task ends.
use Rattle.std.specs.Prelude.{◌≡◌, Bool, true, false, List, replicate}
use Rattle.scx_sched_machine.specs.declared.events.Event.{Event}
use Rattle.scx_sched.specs.Sim.{SimState}
use Rattle.scx_explore_states.specs.Ticks.{times}
use Rattle.scx_explore_bounds.specs.Repeats.{times_in}
use Rattle.scx_explore_audit.specs.declared.table.Moves.{Moves}
use Rattle.scx_explore_audit.specs.declared.table.Moves.TheVariants.{Events, Milliseconds}
use Rattle.scx_explore_audit.specs.Claims.{IsTried, IsMove}

-- an event, or ticks of a CPU in a row until the slice of its task ends
abbrev pub IsRow : SimState → SimState → List Event → Type 0
IsRow root s es = (e : Event) × IsTried root e × (es ≡ replicate (times s e) e)

-- what is tried in a state: the moves of lists, where slices are kept; else, where lists are of
-- events, such rows
abbrev pub IsTriedIn : Bool → Moves → SimState → SimState → List Event → Type 0
IsTriedIn true moves root s es = IsMove moves root es
IsTriedIn false Events root s es = IsRow root s es
IsTriedIn false Milliseconds root s es = IsMove Milliseconds root es

-- the event, as often as it is tried in a row
abbrev pub row : Bool → SimState → Event → List Event
row slices s e = replicate (times_in slices s e) e
