use Rattle.std.proofs.Common.{sym, ◌∙◌}
use Rattle.scx_sched_world.proofs.Fronts.{bound_next, unbound_next}
use Rattle.scx_sched_world.proofs.world.World.next_for.Goals as goal

pub returns-then-binds-clause-answer : goal.returns-then-binds-clause-answer
returns-then-binds-clause-answer c = c.next_bound.ensures.answer ∙ sym (bound_next c.args.self.now c.args.queue c.args.cpu (sym c.binds.ensures ∙ c.if-binds.true))

pub returns-else-binds-clause-answer : goal.returns-else-binds-clause-answer
returns-else-binds-clause-answer c = c.known_front.ensures.answer ∙ sym (unbound_next c.args.self.now c.args.queue c.args.cpu (sym c.binds.ensures ∙ c.if-binds.false))
