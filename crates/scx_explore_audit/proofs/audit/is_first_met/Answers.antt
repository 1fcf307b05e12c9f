use Rattle.scx_explore_audit.specs.Closed.{claim_of}
use Rattle.scx_explore_audit.proofs.Settled.{met_at}
use Rattle.scx_explore_audit.proofs.audit.is_first_met.Goals as goal

pub returns-clause-met : goal.returns-clause-met
returns-clause-met c is = met_at (claim_of c.args.charted) 0 _ _ c.sim-first.ensures (c.is_met.ensures is)
