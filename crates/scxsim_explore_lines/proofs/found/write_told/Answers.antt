use Rattle.scxsim_explore_lines.proofs.Written.{two_on}
use Rattle.scxsim_explore_lines.proofs.found.write_told.Goals as goal

pub returns-clause-text : goal.returns-clause-text
returns-clause-text g c =
    let last = rw c.file.ensures at c.write_file.ensures.ok in
    two_on c.write_file.result _ _ _ _ _ c.in_ok-write_list.ensures.text last
