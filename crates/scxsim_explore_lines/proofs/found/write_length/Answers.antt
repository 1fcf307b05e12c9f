use Rattle.scxsim_explore_lines.proofs.Written.{two_on}
use Rattle.scxsim_explore_lines.proofs.found.write_length.Goals as goal

pub returns-clause-ok : goal.returns-clause-ok
returns-clause-ok g c =
    let last = rw (c.unit.ensures, c.length_in-length.ensures) at c.write_number.ensures.ok in
    two_on c.write_number.result _ _ _ _ _ c.in_ok-write_finding.ensures.ok last
