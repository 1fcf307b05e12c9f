-- The words of the cause of a fault or an exit: its place in a list of events.
use Rattle.std.specs.Prelude.{◌≡◌, ℕ, List, ◌++◌, codes, decimal}
use Rattle.scx_isa_semantics.specs.Callbacks.{callback_name}
use Rattle.scx_sched_machine.specs.declared.events.Event.{Event}
use Rattle.scx_sched.specs.Sim.{SimState}
use Rattle.scxsim_faults.specs.declared.place.FaultPlace.{FaultPlace}
use Rattle.scxsim_faults.specs.Places.{IsPlaceIn}

-- the callback and the slot of a place, before the call
abbrev pub place_words : FaultPlace → List ℕ
place_words p =
    codes "in " ++ callback_name p.callback ++ (codes " at slot " ++ decimal p.slot) ++ codes ", "

-- The words begin with the callback and the slot of the place. After that come those of the call
-- and of the reason, of which nothing is said here.
pub record IsOfPlace (p : FaultPlace) (text : List ℕ) : Type 0 where
  pub call : List ℕ
  pub words : text ≡ place_words p ++ call

-- they are of the place at which the policy is ejected as the machine takes the events
pub record IsCause (s : SimState) (events : List Event) (text : List ℕ) : Type 0 where
  pub place : FaultPlace
  pub there : IsPlaceIn s events place
  pub told : IsOfPlace place text
