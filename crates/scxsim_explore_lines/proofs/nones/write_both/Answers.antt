use Rattle.scxsim_explore_lines.proofs.Written.{two_on}
use Rattle.scxsim_explore_lines.proofs.nones.write_both.Goals as goal

pub returns-clause-ok : goal.returns-clause-ok
returns-clause-ok g c = two_on c.write_text-2.result _ _ _ _ _ c.in_ok-write_text.ensures.ok c.write_text-2.ensures.ok
