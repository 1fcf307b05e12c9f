use Rattle.std.proofs.Common.{◌∙◌, refl}
use Rattle.scx_sched_machine.specs.declared.events.Event.TheVariants.{Wake, Sleep}
use Rattle.scx_explore_audit.specs.Closed.{claim_of}
use Rattle.scx_explore_audit.specs.Tried.{row}
use Rattle.scx_explore_audit.proofs.Passing.{leads_more, leads_none}
use Rattle.scx_explore_audit.proofs.events.tasks_lead_back.Goals as goal

pub loop-task-init : goal.loop-task-init
loop-task-init c = record {
  path = refl;
  wakes = leads_none (claim_of c.args.charted) c.args.depth c.args.path.now (λ s t. row c.args.charted.table.form.slices s (Wake t));
  sleeps = leads_none (claim_of c.args.charted) c.args.depth c.args.path.now (λ s t. row c.args.charted.table.form.slices s (Sleep t));
}

pub loop-task-preserved : goal.loop-task-preserved
loop-task-preserved c = record {
  path = c.task_leads_back.ensures.same ∙ c.loop-task.invariant.path;
  wakes = leads_more (claim_of c.args.charted) c.args.depth c.args.path.now c.loop-task.path c.loop-task.task (λ s t. row c.args.charted.table.form.slices s (Wake t)) c.loop-task.invariant.path c.loop-task.invariant.wakes (c.task_leads_back.ensures.wakes c.if-not-task_leads_back.false);
  sleeps = leads_more (claim_of c.args.charted) c.args.depth c.args.path.now c.loop-task.path c.loop-task.task (λ s t. row c.args.charted.table.form.slices s (Sleep t)) c.loop-task.invariant.path c.loop-task.invariant.sleeps (c.task_leads_back.ensures.sleeps c.if-not-task_leads_back.false);
}
