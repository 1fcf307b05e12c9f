use Rattle.std.proofs.Common.{List, length, ap, ◌∙◌, arith}
use Rattle.scx_sched_machine.specs.declared.events.Event.{Event}
use Rattle.scx_sched_machine.specs.declared.events.Event.TheVariants.{Sleep}
use Rattle.scx_explore_audit.specs.Closed.{claim_of}
use Rattle.scx_explore_audit.proofs.Passing.{home, sleep_past, sleep_there, sleep_over}
use Rattle.scx_explore_audit.proofs.milliseconds.+sleeps_lead_back.Goals as goal

pub returns-then-task-tasks_of-clause-back : goal.returns-then-task-tasks_of-clause-back
returns-then-task-tasks_of-clause-back t c is =
    sleep_past (claim_of c.args.charted) c.args.depth c.args.path.now c.args.task (omega (arith, c.if-task-tasks_of.true, c.tasks_of.ensures)) (c.last_leads_back.ensures.back is)

pub returns-in-There-clause-same : goal.returns-in-There-clause-same
returns-in-There-clause-same t c =
    home _ _ _ _ (Sleep c.args.task) _ (ap (λ (es : List Event). length es) c.events-length.ensures.events) c.in-There.ensures.0 c.in-There.ensures.2 c.sleeps_lead_back-leads.ensures.same c.go_back.ensures
    ∙ c.sleeps_lead_back.ensures.same

pub returns-in-There-clause-back : goal.returns-in-There-clause-back
returns-in-There-clause-back t c is =
    sleep_there (claim_of c.args.charted) c.args.depth c.args.path.now _ _ c.args.task (omega (arith, c.if-task-tasks_of.false, c.tasks_of.ensures)) c.sleeps_lead_back.ensures.same (c.sleeps_lead_back.ensures.back c.if-not-sleeps_lead_back.false) c.in-There.ensures (c.sleeps_lead_back-leads.ensures.back is)

pub returns-in-Over-clause-same : goal.returns-in-Over-clause-same
returns-in-Over-clause-same t c = c.in-Over.ensures.1 ∙ c.sleeps_lead_back.ensures.same

pub returns-in-Over-clause-back : goal.returns-in-Over-clause-back
returns-in-Over-clause-back t c is =
    sleep_over (claim_of c.args.charted) c.args.depth c.args.path.now _ _ c.args.task (omega (arith, c.if-task-tasks_of.false, c.tasks_of.ensures)) c.sleeps_lead_back.ensures.same (c.sleeps_lead_back.ensures.back c.if-not-sleeps_lead_back.false) c.in-Over.ensures
