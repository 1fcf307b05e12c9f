use Rattle.scx_explore_audit.specs.Closed.{claim_of}
use Rattle.scx_explore_audit.proofs.Passing.{each_event}
use Rattle.scx_explore_audit.proofs.events.events_lead_back.Goals as goal

pub returns-clause-back : goal.returns-clause-back
returns-clause-back c is =
    each_event (claim_of c.args.charted) c.args.depth c.args.charted.table.form.slices c.args.path.now _ _ _ _ c.tasks_of-tasks.ensures c.cpus_of-cpus.ensures c.tasks_lead_back.ensures.same c.cpus_lead_back.ensures.same (c.tasks_lead_back.ensures.wakes c.if-not-tasks_lead_back.false) (c.tasks_lead_back.ensures.sleeps c.if-not-tasks_lead_back.false) (c.cpus_lead_back.ensures.ticks c.if-not-cpus_lead_back.false) (c.event_leads_back.ensures.back is)
