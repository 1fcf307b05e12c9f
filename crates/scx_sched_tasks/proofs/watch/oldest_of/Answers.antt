use Rattle.scx_sched_tasks.proofs.Watching.{some_known}
use Rattle.std.proofs.Common.{arith}
use Rattle.scx_sched_tasks.proofs.watch.oldest_of.Goals as goal

pub returns : goal.returns
returns c = λ i n is. let l = some_known c.args.records.now i n is in c.loop-facts.invariant i n (omega arith) is
