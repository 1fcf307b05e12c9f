use Rattle.scxsim_explore.proofs.Named.{past_changes, past_size}
use Rattle.scxsim_explore.proofs.limits.limit_of.Goals as goal

pub returns-in-Some-clause-past : goal.returns-in-Some-clause-past
returns-in-Some-clause-past c = past_size c.args.bounds c.args.about.now c.args.sim.now c.in-Some.limit c.in-Some.ensures.large

pub returns-in-None-clause-past : goal.returns-in-None-clause-past
returns-in-None-clause-past c = past_changes c.args.bounds c.args.about.now c.args.sim.now c.changes_limit.result (c.size_limit.ensures.small c.in-None.is) c.changes_limit.ensures.many
