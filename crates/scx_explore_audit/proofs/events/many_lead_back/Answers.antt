use Rattle.std.proofs.Common.{List, length, ap}
use Rattle.scx_sched_machine.specs.declared.events.Event.{Event}
use Rattle.scx_explore_audit.specs.Closed.{claim_of}
use Rattle.scx_explore_audit.proofs.InARow.{no_more, one_more, back_again, none_came, one_came, one_ended, last_came}
use Rattle.scx_explore_audit.proofs.events.many_lead_back.Goals as goal

pub loop-number-init : goal.loop-number-init
loop-number-init c = record {
  path = no_more c.args.path.now;
  back = none_came (claim_of c.args.charted) c.args.depth c.args.event c.args.times c.args.path.now;
}

pub loop-number-preserved : goal.loop-number-preserved
loop-number-preserved c = record {
  path = one_more c.args.path.now c.loop-number.path _ c.args.event c.loop-number.invariant.path c.in-There.ensures.0 c.in-There.ensures.2;
  back = one_came (claim_of c.args.charted) c.args.depth c.args.event c.args.times c.args.path.now c.loop-number.path _ c.loop-number.number c.loop-number-test.true c.loop-number.invariant.back c.in-There.ensures;
}

pub returns-in-Over-clause-same : goal.returns-in-Over-clause-same
returns-in-Over-clause-same c =
    back_again c.args.path.now c.loop-number.path _ _ _ (ap (λ (es : List Event). length es) c.events-length.ensures.events) c.loop-number.invariant.path c.in-Over.ensures.1 c.go_back.ensures

pub returns-in-Over-clause-back : goal.returns-in-Over-clause-back
returns-in-Over-clause-back c is =
    one_ended (claim_of c.args.charted) c.args.depth c.args.event c.args.times c.args.path.now c.loop-number.path _ c.loop-number.number c.loop-number-test.true c.loop-number.invariant.back c.in-Over.ensures

pub returns-in-Shows-clause-same : goal.returns-in-Shows-clause-same
returns-in-Shows-clause-same c =
    back_again c.args.path.now c.loop-number.path _ _ _ (ap (λ (es : List Event). length es) c.events-length.ensures.events) c.loop-number.invariant.path c.in-Shows.ensures c.go_back-in-Shows.ensures

pub returns-clause-same : goal.returns-clause-same
returns-clause-same c =
    back_again c.args.path.now c.loop-number.path _ _ _ (ap (λ (es : List Event). length es) c.events-length.ensures.events) c.loop-number.invariant.path c.last_leads_back-leads.ensures.same c.go_back-2.ensures

pub returns-clause-back : goal.returns-clause-back
returns-clause-back c is =
    last_came (claim_of c.args.charted) c.args.depth c.args.event c.args.times c.args.path.now c.loop-number.path c.loop-number.number (c.loop-number.auto.number-end c.requires) c.loop-number-test.false c.loop-number.invariant.back (c.last_leads_back-leads.ensures.back is)
