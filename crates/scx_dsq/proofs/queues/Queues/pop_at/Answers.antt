use Rattle.std.proofs.Common.{Some, ap, refl, ◌∙◌, arith}
use Rattle.scx_dsq.specs.Queues.{QueueState, task_count}
use Rattle.scx_dsq.proofs.Costs.{paid_none}
use Rattle.scx_dsq.proofs.Facts.{tasks_without}
use Rattle.scx_dsq.proofs.queues.Queues.pop_at.Goals as goal

pub returns-in_default-clause-cost : goal.returns-in_default-clause-cost
returns-in_default-clause-cost g c = paid_none c.args.self.now c.args.self.now c.args.id _ refl (omega arith)

pub returns-clause-state : goal.returns-clause-state
returns-clause-state g c = rw (← c.in-Some.ensures.answer) c.take_front.ensures.state

pub returns-clause-tasks : goal.returns-clause-tasks
returns-clause-tasks g c = ap (λ (s : QueueState). task_count s) c.take_front.ensures.state ∙ tasks_without c.args.self.now.state (Some c.in-Some.task)

pub returns-clause-pushes : goal.returns-clause-pushes
returns-clause-pushes g c = ap (λ (s : QueueState). s.pushes) c.take_front.ensures.state

pub returns-in_default-clause-state : goal.returns-in_default-clause-state
returns-in_default-clause-state g c = rw (← c.in_default.ensures.answer) refl
