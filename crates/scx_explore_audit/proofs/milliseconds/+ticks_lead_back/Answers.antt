use Rattle.std.proofs.Common.{List, length, ap, arith}
use Rattle.scx_sched_machine.specs.declared.events.Event.{Event}
use Rattle.scx_sched_machine.specs.declared.events.Event.TheVariants.{Tick}
use Rattle.scx_explore_audit.specs.Closed.{claim_of}
use Rattle.scx_explore_audit.proofs.Passing.{home, tick_behind, tick_there, tick_over}
use Rattle.scx_explore_audit.proofs.milliseconds.+ticks_lead_back.Goals as goal

pub returns-then-cpu-cpus_of-clause-back : goal.returns-then-cpu-cpus_of-clause-back
returns-then-cpu-cpus_of-clause-back t c is =
    tick_behind (claim_of c.args.charted) c.args.depth c.args.path.now c.args.cpu (omega (arith, c.if-cpu-cpus_of.true, c.cpus_of.ensures)) (c.sleeps_lead_back.ensures.back is)

pub returns-in-There-clause-same : goal.returns-in-There-clause-same
returns-in-There-clause-same t c =
    home c.args.path.now _ _ _ (Tick c.args.cpu) _ (ap (λ (es : List Event). length es) c.events-length.ensures.events) c.in-There.ensures.0 c.in-There.ensures.2 c.ticks_lead_back-leads.ensures.same c.go_back.ensures

pub returns-in-There-clause-back : goal.returns-in-There-clause-back
returns-in-There-clause-back t c is =
    tick_there (claim_of c.args.charted) c.args.depth c.args.path.now _ c.args.cpu (omega (arith, c.if-cpu-cpus_of.false, c.cpus_of.ensures)) c.in-There.ensures (c.ticks_lead_back-leads.ensures.back is)

pub returns-in-Over-clause-back : goal.returns-in-Over-clause-back
returns-in-Over-clause-back t c is =
    tick_over (claim_of c.args.charted) c.args.depth c.args.path.now _ c.args.cpu (omega (arith, c.if-cpu-cpus_of.false, c.cpus_of.ensures)) c.in-Over.ensures
