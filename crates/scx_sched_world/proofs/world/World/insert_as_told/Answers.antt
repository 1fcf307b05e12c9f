use Rattle.std.proofs.Common.{ap, ◌∙◌}
use Rattle.scx_sched_world.specs.Helpers.{insert_answer, after_insert}
use Rattle.scx_sched_world.proofs.world.World.insert_as_told.Goals as goal

pub returns-clause-answer : goal.returns-clause-answer
returns-clause-answer c = c.insert_here.ensures.answer ∙ ap (λ i. insert_answer c.args.self.now c.args.task i c.args.flags) c.in_order.ensures

pub returns-clause-world : goal.returns-clause-world
returns-clause-world c = c.insert_here.ensures.world ∙ ap (λ i. after_insert c.args.self.now c.args.task i c.args.flags) c.in_order.ensures
