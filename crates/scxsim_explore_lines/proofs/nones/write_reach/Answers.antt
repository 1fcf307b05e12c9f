use Rattle.scxsim_explore_lines.proofs.nones.write_reach.Goals as goal

pub returns-in-Some-clause-ok : goal.returns-in-Some-clause-ok
returns-in-Some-clause-ok g c =
    rw c.in-Some.is (rw (c.up_to.ensures, c.depth_unit.ensures) at c.write_number.ensures.ok)
