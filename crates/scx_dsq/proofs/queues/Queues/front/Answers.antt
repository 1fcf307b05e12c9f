use Rattle.std.proofs.Common.{sym}
use Rattle.scx_dsq.proofs.Fronts.{no_front}
use Rattle.scx_dsq.proofs.queues.Queues.front.Goals as goal

pub returns-in-None-clause-answer : goal.returns-in-None-clause-answer
returns-in-None-clause-answer c = sym (no_front c.args.self.now.state c.args.id c.in-None.ensures.nobody)
