use Rattle.scxsim_explore_lines.proofs.Written.{three_on}
use Rattle.scxsim_explore_lines.proofs.found.write_workload.Goals as goal

pub returns-clause-ok : goal.returns-clause-ok
returns-clause-ok g c = three_on c.write_text-3.result _ _ _ _ _ _ _ c.in_ok-write_text.ensures.ok c.in_ok-write_text-2.ensures.ok c.write_text-3.ensures.ok
