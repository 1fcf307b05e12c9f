use Rattle.std.proofs.Common.{◌∙◌}
use Rattle.scx_sched_world.proofs.Inserting.{answers_last, leaves_last}
use Rattle.scx_sched_world.proofs.world.World.insert_last.Goals as goal

pub returns-clause-answer : goal.returns-clause-answer
returns-clause-answer c = c.insert_now.ensures.answer ∙ answers_last c.args.self.now c.args.task c.args.queue c.args.slice c.args.flags c.requires.plain

pub returns-clause-world : goal.returns-clause-world
returns-clause-world c = c.insert_now.ensures.world ∙ leaves_last c.args.self.now c.args.task c.args.queue c.args.slice c.args.flags c.requires.plain
