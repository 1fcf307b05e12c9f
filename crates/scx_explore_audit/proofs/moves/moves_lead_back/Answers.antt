use Rattle.scx_explore_findings.specs.Path.{machine_of}
use Rattle.scx_explore_audit.specs.Closed.{claim_of}
use Rattle.scx_explore_audit.proofs.Passing.{each_single, each_millisecond}
use Rattle.scx_explore_audit.proofs.moves.moves_lead_back.Goals as goal

pub returns-in-Events-clause-back : goal.returns-in-Events-clause-back
returns-in-Events-clause-back c is =
    each_single (claim_of c.args.charted) c.args.depth c.args.charted.table.form.slices c.args.charted.table.moves c.args.path.now.root (machine_of c.args.path.now) c.in-Events.is (c.events_lead_back.ensures.back is)

pub returns-in-Milliseconds-clause-back : goal.returns-in-Milliseconds-clause-back
returns-in-Milliseconds-clause-back c is =
    each_millisecond (claim_of c.args.charted) c.args.depth c.args.charted.table.form.slices c.args.charted.table.moves c.args.path.now.root (machine_of c.args.path.now) c.in-Milliseconds.is (c.wakes_lead_back.ensures.back is)
