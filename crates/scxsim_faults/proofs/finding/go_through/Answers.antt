use Rattle.std.proofs.Common.{rules}
use Rattle.scxsim_faults.specs.Places.{IsPlaceIn}
use Rattle.scxsim_faults.proofs.Ejected.{places_first, place_back, if_found}
use Rattle.scxsim_faults.proofs.finding.go_through.Goals as goal

pub returns-then-is_some : goal.returns-then-is_some
returns-then-is_some g c =
    let at = c.loop in
    if_found (IsPlaceIn at.sim (g.E.Events.remaining at.events at.sim)) _ c.step-found.result at.invariant.back
    (places_first at.sim c.in-Some.event (g.E.Events.remaining at.events at.sim) _ c.step-found.result c.in-Some.ensures.next c.step-found.ensures.place)

pub loop-preserved : goal.loop-preserved
loop-preserved g c =
    let at = c.loop in
    record {
      in_force = search rules;
      back = λ p x. at.invariant.back p (place_back (g.E.Events.remaining c.next.new.self) at.sim c.step-found.new.sim c.in-Some.event (g.E.Events.remaining at.events at.sim) p c.in-Some.ensures.next c.step-found.ensures.state x);
    }
