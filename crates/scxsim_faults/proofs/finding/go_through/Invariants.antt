use Rattle.std.proofs.Common.{◌≡◌, None}
use Rattle.scxsim_faults.specs.declared.place.FaultPlace.{FaultPlace}
use Rattle.scxsim_faults.specs.Places.{IsPlaceIn}
use Rattle.scxsim_faults.proofs.finding.go_through.Given as goal

-- the policy is in force, and a place in the events that are left is one in all of them
abbrev pub invariant-loop : goal.invariant-loop
invariant-loop g l = record {
  in_force : l.sim.state.world.ejected ≡ None;
  back : (p : FaultPlace) → IsPlaceIn l.sim (g.E.Events.remaining l.events l.sim) p → IsPlaceIn l.initial.sim (g.E.Events.remaining l.initial.events l.initial.sim) p;
}
