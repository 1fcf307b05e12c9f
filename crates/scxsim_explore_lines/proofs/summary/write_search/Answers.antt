use Rattle.scxsim_explore_lines.proofs.Written.{two_on}
use Rattle.scxsim_explore_lines.proofs.summary.write_search.Goals as goal

pub returns-clause-ok : goal.returns-clause-ok
returns-clause-ok g c = two_on c.write_reached.result _ _ _ _ _ c.in_ok-write_starts.ensures.ok c.write_reached.ensures.ok
