use Rattle.scx_explore_findings.proofs.Ending.{taken_there}
use Rattle.scx_explore_findings.proofs.showing.ends_taking_in.Goals as goal

pub returns-then-is_in_force-clause-there : goal.returns-then-is_in_force-clause-there
returns-then-is_in_force-clause-there c = λ taken.
    taken_there c.args.sim.now c.replay-outcome.new.sim c.takes.new.sim c.args.before.now c.args.event c.replay-outcome.result (c.is_in_force.ensures c.if-is_in_force.true) c.replay-outcome.ensures.state c.takes.ensures.state
