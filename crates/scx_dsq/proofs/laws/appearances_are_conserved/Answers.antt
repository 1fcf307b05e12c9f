use Rattle.scx_dsq.proofs.Facts.{standing_pushed, standing_popped, standing_removed, others_change_none}
use Rattle.scx_dsq.proofs.laws.appearances_are_conserved.Goals as goal

pub returns-clause-push : goal.returns-clause-push
returns-clause-push c = standing_pushed

pub returns-clause-pop : goal.returns-clause-pop
returns-clause-pop c = standing_popped

pub returns-clause-removal : goal.returns-clause-removal
returns-clause-removal c = standing_removed

pub returns-clause-others : goal.returns-clause-others
returns-clause-others c = others_change_none
