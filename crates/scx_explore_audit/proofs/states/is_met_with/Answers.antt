use Rattle.scx_explore_audit.specs.Closed.{claim_of}
use Rattle.scx_explore_audit.proofs.Settled.{met}
use Rattle.scx_explore_audit.proofs.states.is_met_with.Goals as goal

pub returns-in-Some : goal.returns-in-Some
returns-in-Some c is =
    met (claim_of c.args.charted) c.args.depth _ c.args.sim.now _ _ c.as_slice.ensures.value c.in-Some.ensures.there c.in-Some.ensures.same (c.is_no_deeper.ensures is) (c.write_state.ensures c.if-not-write_state.false)
