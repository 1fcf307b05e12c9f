use Rattle.std.proofs.Common.{◌∙◌}
use Rattle.scxsim_explore.proofs.telling.search.Goals as goal

pub loop-count-preserved : goal.loop-count-preserved
loop-count-preserved g c = c.end_after.ensures.bounds ∙ c.loop-count.invariant
