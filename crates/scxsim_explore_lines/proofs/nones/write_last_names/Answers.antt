use Rattle.scxsim_explore_lines.proofs.Written.{two_on}
use Rattle.scxsim_explore_lines.proofs.nones.write_last_names.Goals as goal

pub returns-clause-ok : goal.returns-clause-ok
returns-clause-ok g c =
    let first = rw (c.joint-before_exit.ensures, c.either.ensures) at c.in_ok-write_name.ensures.ok in
    let last = rw (c.joint-before_idle.ensures, c.either-3.ensures, c.either-2.ensures) at c.write_name-2.ensures.ok in
    two_on c.write_name-2.result _ _ _ _ _ first last
