-- Facts of a machine between two events: no note is left, and its host tracks idle CPUs as before.
use Rattle.std.specs.Prelude.{◌≡◌, Bool, [], None}
use Rattle.scx_dsq.specs.Laws.{IsSound}
use Rattle.scx_sched_world.specs.World.{WorldState}
use Rattle.scx_sched_machine.specs.declared.events.Event.{Event}
use Rattle.scx_sched.specs.Sim.{SimState, after_event}

-- no note is left that wasn't handed on, and while the policy is in force the host tracks idle
-- CPUs, or doesn't
abbrev pub IsQuiet : Bool → WorldState → Type 0
IsQuiet tracks w = (w.notes ≡ []) × (w.ejected ≡ None → w.tracks_idle ≡ tracks)

-- each event keeps that, whether it is accepted or refused
abbrev pub EventsLeaveNoNotes : Type 0
EventsLeaveNoNotes =
    (tracks : Bool) (s : SimState) (e : Event)
    → IsQuiet tracks s.state.world → IsQuiet tracks (after_event s e).state.world

-- each event keeps queues sound: in particular each push that waits still has a number of its own
abbrev pub EventsKeepQueuesSound : Type 0
EventsKeepQueuesSound =
    (s : SimState) (e : Event)
    → IsSound s.state.world.queues → IsSound (after_event s e).state.world.queues
