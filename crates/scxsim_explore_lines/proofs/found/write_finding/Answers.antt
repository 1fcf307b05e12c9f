use Rattle.scxsim_explore_lines.proofs.found.write_finding.Goals as goal

pub returns-in-Fault-clause-ok : goal.returns-in-Fault-clause-ok
returns-in-Fault-clause-ok g c = rw c.in-Fault.is (rw (c.from.ensures, c.number.ensures) at c.write_number.ensures.ok)
