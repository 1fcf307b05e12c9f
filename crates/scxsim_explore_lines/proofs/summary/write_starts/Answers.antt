use Rattle.scxsim_explore_lines.proofs.Written.{three_on}
use Rattle.scxsim_explore_lines.proofs.summary.write_starts.Goals as goal

pub returns-clause-ok : goal.returns-clause-ok
returns-clause-ok g c = three_on c.write_start-2.result _ _ _ _ _ _ _ c.in_ok-write_start.ensures.ok c.in_ok-write_task_starts.ensures.ok c.write_start-2.ensures.ok
