use Rattle.std.proofs.Common.{◌∙◌, refl}
use Rattle.scx_sched_machine.specs.declared.events.Event.TheVariants.{Tick}
use Rattle.scx_explore_audit.specs.Closed.{claim_of}
use Rattle.scx_explore_audit.specs.Tried.{row}
use Rattle.scx_explore_audit.proofs.Passing.{leads_more, leads_none}
use Rattle.scx_explore_audit.proofs.events.cpus_lead_back.Goals as goal

pub loop-cpu-init : goal.loop-cpu-init
loop-cpu-init c = record {
  path = refl;
  ticks = leads_none (claim_of c.args.charted) c.args.depth c.args.path.now (λ s k. row c.args.charted.table.form.slices s (Tick k));
}

pub loop-cpu-preserved : goal.loop-cpu-preserved
loop-cpu-preserved c = record {
  path = c.event_leads_back.ensures.same ∙ c.loop-cpu.invariant.path;
  ticks = leads_more (claim_of c.args.charted) c.args.depth c.args.path.now c.loop-cpu.path c.loop-cpu.cpu (λ s k. row c.args.charted.table.form.slices s (Tick k)) c.loop-cpu.invariant.path c.loop-cpu.invariant.ticks (c.event_leads_back.ensures.back c.if-not-event_leads_back.false);
}
