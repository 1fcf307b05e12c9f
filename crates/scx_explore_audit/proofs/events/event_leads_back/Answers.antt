use Rattle.std.proofs.Common.{ℕ, replicate, subst, ap, ◌∙◌}
use Rattle.scx_sched.specs.Sim.{SimState}
use Rattle.scx_explore_bounds.specs.Repeats.{times_in}
use Rattle.scx_explore_findings.specs.Path.{machine_of}
use Rattle.scx_explore_audit.specs.Closed.{LeadsBack, claim_of}
use Rattle.scx_explore_audit.proofs.Fitting.{one_at_least}
use Rattle.scx_explore_audit.proofs.events.event_leads_back.Goals as goal

pub many_lead_back-requires : goal.many_lead_back-requires
many_lead_back-requires c =
    one_at_least c.args.charted.table.form.slices (machine_of c.args.path.now) c.args.event
    (c.times_in-times.ensures ∙ ap (λ (s : SimState). times_in c.args.charted.table.form.slices s c.args.event) c.sim.ensures)

pub returns-clause-back : goal.returns-clause-back
returns-clause-back c is =
    subst (λ (n : ℕ). LeadsBack (claim_of c.args.charted) c.args.depth (machine_of c.args.path.now) (replicate n c.args.event))
    (c.times_in-times.ensures ∙ ap (λ (s : SimState). times_in c.args.charted.table.form.slices s c.args.event) c.sim.ensures)
    (c.many_lead_back.ensures.back is)
