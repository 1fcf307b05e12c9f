use Rattle.scx_explore_audit.specs.Closed.{claim_of}
use Rattle.scx_explore_audit.proofs.Settled.{begun_tried, closed}
use Rattle.scx_explore_audit.proofs.audit.is_closed.Goals as goal

pub are_done-requires-clause-tried : goal.are_done-requires-clause-tried
are_done-requires-clause-tried c = begun_tried c.args.path.now _ c.go_back.ensures

pub returns : goal.returns
returns c is =
    closed (claim_of c.args.charted) c.args.path.now _ c.go_back.ensures (c.is_first_met.ensures.force c.if-not-is_first_met.false) (c.is_first_met.ensures.met c.if-not-is_first_met.false) (c.are_done.ensures is)
