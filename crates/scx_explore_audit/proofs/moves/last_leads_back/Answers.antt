use Rattle.std.proofs.Common.{List, [], length, ap, refl}
use Rattle.scx_sched_machine.specs.declared.events.Event.{Event}
use Rattle.scx_explore_audit.specs.Closed.{claim_of}
use Rattle.scx_explore_audit.proofs.Passing.{ends, home, leads_there, leads_over}
use Rattle.scx_explore_audit.proofs.moves.last_leads_back.Goals as goal

pub returns-in-There-clause-same : goal.returns-in-There-clause-same
returns-in-There-clause-same c =
    home c.args.path.now _ _ _ c.args.event _ (ap (λ (es : List Event). length es) c.events-length.ensures.events) c.in-There.ensures.0 c.in-There.ensures.2 refl c.go_back.ensures

pub returns-in-There-clause-back : goal.returns-in-There-clause-back
returns-in-There-clause-back c is =
    leads_there (claim_of c.args.charted) c.args.depth c.args.path.now _ c.args.event [] c.in-There.ensures (ends (claim_of c.args.charted) c.args.depth _ _ c.sim.ensures (c.is_met-met.ensures is))

pub returns-in-Over-clause-back : goal.returns-in-Over-clause-back
returns-in-Over-clause-back c is =
    leads_over (claim_of c.args.charted) c.args.depth c.args.path.now _ c.args.event [] c.in-Over.ensures
