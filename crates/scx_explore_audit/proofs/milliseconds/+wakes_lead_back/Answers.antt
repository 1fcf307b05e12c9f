use Rattle.std.proofs.Common.{List, length, ap, ◌∙◌, arith}
use Rattle.scx_sched_machine.specs.declared.events.Event.{Event}
use Rattle.scx_sched_machine.specs.declared.events.Event.TheVariants.{Wake}
use Rattle.scx_explore_audit.specs.Closed.{claim_of}
use Rattle.scx_explore_audit.proofs.Passing.{home, wake_past, wake_there, wake_over}
use Rattle.scx_explore_audit.proofs.milliseconds.+wakes_lead_back.Goals as goal

pub returns-then-task-tasks_of-clause-back : goal.returns-then-task-tasks_of-clause-back
returns-then-task-tasks_of-clause-back t c is =
    wake_past (claim_of c.args.charted) c.args.depth c.args.path.now c.args.task (omega (arith, c.if-task-tasks_of.true, c.tasks_of.ensures)) (c.ticks_lead_back.ensures.back is)

pub returns-in-There-clause-same : goal.returns-in-There-clause-same
returns-in-There-clause-same t c =
    home _ _ _ _ (Wake c.args.task) _ (ap (λ (es : List Event). length es) c.events-length.ensures.events) c.in-There.ensures.0 c.in-There.ensures.2 c.wakes_lead_back-leads.ensures.same c.go_back.ensures
    ∙ c.wakes_lead_back.ensures.same

pub returns-in-There-clause-back : goal.returns-in-There-clause-back
returns-in-There-clause-back t c is =
    wake_there (claim_of c.args.charted) c.args.depth c.args.path.now _ _ c.args.task (omega (arith, c.if-task-tasks_of.false, c.tasks_of.ensures)) c.wakes_lead_back.ensures.same (c.wakes_lead_back.ensures.back c.if-not-wakes_lead_back.false) c.in-There.ensures (c.wakes_lead_back-leads.ensures.back is)

pub returns-in-Over-clause-same : goal.returns-in-Over-clause-same
returns-in-Over-clause-same t c = c.in-Over.ensures.1 ∙ c.wakes_lead_back.ensures.same

pub returns-in-Over-clause-back : goal.returns-in-Over-clause-back
returns-in-Over-clause-back t c is =
    wake_over (claim_of c.args.charted) c.args.depth c.args.path.now _ _ c.args.task (omega (arith, c.if-task-tasks_of.false, c.tasks_of.ensures)) c.wakes_lead_back.ensures.same (c.wakes_lead_back.ensures.back c.if-not-wakes_lead_back.false) c.in-Over.ensures
