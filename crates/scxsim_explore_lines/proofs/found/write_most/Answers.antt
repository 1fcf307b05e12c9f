use Rattle.scxsim_explore_lines.proofs.Written.{two_on}
use Rattle.scxsim_explore_lines.proofs.found.write_most.Goals as goal

pub returns-clause-ok : goal.returns-clause-ok
returns-clause-ok g c =
    let last = rw c.name.ensures at c.write_text.ensures.ok in
    two_on c.write_text.result _ _ _ _ _ c.in_ok-write_number.ensures.ok last
