use Rattle.scxsim_explore_lines.proofs.Written.{two_on}
use Rattle.scxsim_explore_lines.proofs.nones.write_lists.Goals as goal

pub returns-clause-ok : goal.returns-clause-ok
returns-clause-ok g c = two_on c.write_few.result _ _ _ _ _ c.in_ok-write_reach.ensures.ok c.write_few.ensures.ok
