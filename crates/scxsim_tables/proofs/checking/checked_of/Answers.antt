use Rattle.scxsim_tables.proofs.checking.checked_of.Goals as goal

pub returns-clause-checked : goal.returns-clause-checked
returns-clause-checked g c =
    (_, c.in_ok-found.ensures.of_texts, c.stays_in_force-is_in_force.ensures, c.as_str.result.now, c.in_ok-line.ensures)
