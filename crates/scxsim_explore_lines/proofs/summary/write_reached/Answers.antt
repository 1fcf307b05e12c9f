use Rattle.scxsim_explore_lines.proofs.Written.{three_on}
use Rattle.scxsim_explore_lines.proofs.summary.write_reached.Goals as goal

pub returns-clause-ok : goal.returns-clause-ok
returns-clause-ok g c =
    let first = rw c.alike_text.ensures at c.in_ok-write_text.ensures.ok in
    three_on c.write_misfit.result _ _ _ _ _ _ _ first c.in_ok-write_depths.ensures.ok c.write_misfit.ensures.ok
