use Rattle.scx_isa_semantics.proofs.CarryingOver.{end_carries_over, stuck_carries_over}
use Rattle.scx_isa_semantics.proofs.laws.run_carries_over.Goals as goal

pub returns-clause-end : goal.returns-clause-end
returns-clause-end g c = end_carries_over g.W.Responder.responds g.V.Responder.responds

pub returns-clause-stuck : goal.returns-clause-stuck
returns-clause-stuck g c = stuck_carries_over g.W.Responder.responds g.V.Responder.responds
