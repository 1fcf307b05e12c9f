use Rattle.scx_sched_machine.specs.declared.events.Event.TheVariants.{Sleep}
use Rattle.scx_explore_audit.specs.Closed.{claim_of}
use Rattle.scx_explore_audit.specs.Tried.{row}
use Rattle.scx_explore_audit.proofs.Passing.{leads_as}
use Rattle.scx_explore_audit.proofs.events.task_leads_back.Goals as goal

pub returns-clause-sleeps : goal.returns-clause-sleeps
returns-clause-sleeps c is =
    leads_as (claim_of c.args.charted) c.args.depth c.args.path.now _ (λ s. row c.args.charted.table.form.slices s (Sleep c.args.task)) c.event_leads_back.ensures.same (c.event_leads_back-2.ensures.back is)
