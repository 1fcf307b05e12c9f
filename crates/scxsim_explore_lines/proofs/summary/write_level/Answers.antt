use Rattle.scxsim_explore_lines.proofs.Written.{three_on}
use Rattle.scxsim_explore_lines.proofs.summary.write_level.Goals as goal

pub returns-clause-ok : goal.returns-clause-ok
returns-clause-ok g c =
    let first = rw c.depth_unit.ensures at c.in_ok-write_number.ensures.ok in
    three_on c.write_tried.result _ _ _ _ _ _ _ first c.in_ok-write_number-2.ensures.ok c.write_tried.ensures.ok
