use Rattle.scxsim_statistics.proofs.Whole.{gathered, answered}
use Rattle.scxsim_statistics.proofs.gathering.gather_from.Goals as goal

pub returns : goal.returns
returns g c =
    let events = g.E.Events.remaining c.args.events.now c.args.sim.now in
    let counts = gathered (λ x. x.tally) c.args.workload.now c.args.sim.now _ events _ _ c.end.new.self c.in_ok-gathering.ensures.counts c.observe.ensures c.end.ensures in
    answered c.gathered.result c.end.new.self.tally c.args.workload.now c.args.sim.now _ events _ c.gathered.ensures.figures c.gathered.ensures.well c.ejected.ensures counts
