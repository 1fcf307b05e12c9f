use Rattle.std.proofs.Common.{sym}
use Rattle.scx_dsq.proofs.Ordering.{there}
use Rattle.scx_dsq.proofs.queues.find.Goals as goal

pub returns-in-Some-clause-found : goal.returns-in-Some-clause-found
returns-in-Some-clause-found c = sym (there c.args.live.now c.args.id c.in-Some.index c.in-Some.ensures)
