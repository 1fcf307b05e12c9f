-- A list of events, one after another.
use Rattle.std.specs.Prelude.{◌≡◌, List, [], ◌∷◌, ◌++◌, None}
use Rattle.scx_sched_world.specs.declared.notes.Note.{Note}
use Rattle.scx_sched_machine.specs.declared.events.Event.{Event}
use Rattle.scx_sched.specs.Sim.{SimState, refusal, after_event, notes_of}
use Rattle.scx_sched.specs.Quiet.{GoQuietly}

-- the state after them
abbrev pub stepped_all : SimState → List Event → SimState
stepped_all s [] = s
stepped_all s (e ∷ es) = stepped_all (after_event s e) es

-- their notes
abbrev pub notes_of_all : SimState → List Event → List Note
notes_of_all s [] = []
notes_of_all s (e ∷ es) = notes_of s e ++ notes_of_all (after_event s e) es

-- from the first state and these events to the second state and the rest of them: the events
-- between, each a tick or the clock, went quietly
pub record Skips (events : List Event) (s : SimState) (rest : List Event) (t : SimState) : Type 0 where
  pub done : List Event
  pub whole : events ≡ done ++ rest
  pub state : t ≡ stepped_all s done
  pub quietly : GoQuietly s done

-- none of them is refused
abbrev pub AreAccepted : SimState → List Event → Type 0
AreAccepted s [] = Unit {0}
AreAccepted s (e ∷ es) = (refusal s e ≡ None) × AreAccepted (after_event s e) es
