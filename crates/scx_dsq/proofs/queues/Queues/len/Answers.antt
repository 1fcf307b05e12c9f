use Rattle.std.proofs.Common.{sym}
use Rattle.scx_dsq.proofs.Fronts.{nobody_counts}
use Rattle.scx_dsq.proofs.queues.Queues.len.Goals as goal

pub returns-in-None : goal.returns-in-None
returns-in-None c = sym (nobody_counts c.args.self.now.state c.args.id c.in-None.ensures.nobody)
