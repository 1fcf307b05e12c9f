use Rattle.std.proofs.KnownBytes.{Keeps-trans, append_known-kept}
use Rattle.scxsim_output.proofs.Holding.{emptied}
use Rattle.scxsim_output.proofs.blocks.Blocks+Counted+BufWriter+W+A.flush.Goals as goal

pub returns-clause-contents : goal.returns-clause-contents
returns-clause-contents g c = Keeps-trans _ _ _ c.in_ok-spill.ensures.contents (append_known-kept _ _ _ c.flush.ensures.contents)

pub returns-clause-emptied : goal.returns-clause-emptied
returns-clause-emptied g c = emptied _ _ _ c.in_ok-spill.ensures.emptied
