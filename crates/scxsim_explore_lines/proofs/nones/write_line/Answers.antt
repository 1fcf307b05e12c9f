use Rattle.scxsim_explore_lines.proofs.Written.{three_on}
use Rattle.scxsim_explore_lines.proofs.nones.write_line.Goals as goal

pub returns-clause-ok : goal.returns-clause-ok
returns-clause-ok g c = three_on c.write_lists.result _ _ _ _ _ _ _ c.in_ok-write_first_names.ensures.ok c.in_ok-write_last_names.ensures.ok c.write_lists.ensures.ok
