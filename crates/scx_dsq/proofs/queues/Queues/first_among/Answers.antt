use Rattle.std.proofs.Common.{sym}
use Rattle.scx_dsq.proofs.Among.{first_of_nobody}
use Rattle.scx_dsq.proofs.queues.Queues.first_among.Goals as goal

pub returns-in-None-clause-answer : goal.returns-in-None-clause-answer
returns-in-None-clause-answer g c = sym (first_of_nobody (g.S.TaskSet.has c.args.tasks.now) c.args.self.now.state c.args.id c.in-None.ensures.nobody)
