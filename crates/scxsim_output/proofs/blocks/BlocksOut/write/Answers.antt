use Rattle.scxsim_output.proofs.Holding.{written_through}
use Rattle.scxsim_output.proofs.blocks.BlocksOut.write.Goals as goal

pub returns-clause-grows : goal.returns-clause-grows
returns-clause-grows g c = written_through _ _ _ _ _ _ _ c.in_ok-hand_on.ensures.emptied c.in_ok-hand_on.ensures.contents c.write.ensures.grows
