use Rattle.std.proofs.Common.{sym}
use Rattle.scx_dsq.proofs.Fronts.{nobody_clashes}
use Rattle.scx_dsq.proofs.queues.Queues.would_mix.Goals as goal

pub returns-in-None : goal.returns-in-None
returns-in-None c = sym (nobody_clashes c.args.self.now.state c.args.id c.args.rank c.in-None.ensures.nobody)
