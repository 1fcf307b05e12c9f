use Rattle.std.proofs.Common.{refl, sym, arith}
use Rattle.scx_dsq.proofs.Costs.{paid_none}
use Rattle.scx_dsq.proofs.Fronts.{no_front}
use Rattle.scx_dsq.proofs.queues.Queues.pop.Goals as goal

pub returns-in-None-clause-answer : goal.returns-in-None-clause-answer
returns-in-None-clause-answer g c = sym (no_front c.args.self.now.state c.args.id c.in-None.ensures.nobody)

pub returns-in-None-clause-state : goal.returns-in-None-clause-state
returns-in-None-clause-state g c = rw (no_front c.args.self.now.state c.args.id c.in-None.ensures.nobody) refl

pub returns-in-None-clause-cost : goal.returns-in-None-clause-cost
returns-in-None-clause-cost g c = paid_none c.args.self.now c.args.self.now c.args.id _ refl (omega arith)
