use Rattle.scx_explore_audit.specs.Closed.{claim_of}
use Rattle.scx_explore_audit.proofs.Settled.{done}
use Rattle.scx_explore_audit.proofs.states.is_done_here.Goals as goal

pub returns-clause-done : goal.returns-clause-done
returns-clause-done c is =
    done (claim_of c.args.charted) c.args.path.now _ _ c.args.state c.args.next c.requires.tried c.requires.accepted c.requires.few c.requires.force c.sim-here.ensures c.state-kept.ensures (c.is_written.ensures c.if-not-is_written.false) c.requires.next (c.moves_lead_back.ensures.back is) (c.rows_fit.ensures c.if-not-rows_fit.false) (c.is_early.ensures c.if-not-is_early.false)
