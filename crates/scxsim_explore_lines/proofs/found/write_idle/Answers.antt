use Rattle.scxsim_explore_lines.proofs.Written.{two_on}
use Rattle.scxsim_explore_lines.proofs.found.write_idle.Goals as goal

pub returns-clause-ok : goal.returns-clause-ok
returns-clause-ok g c =
    let first = rw c.from.ensures at c.in_ok-write_number.ensures.ok in
    two_on c.write_task.result _ _ _ _ _ first c.write_task.ensures.ok
