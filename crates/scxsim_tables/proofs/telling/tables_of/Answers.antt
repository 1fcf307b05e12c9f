use Rattle.scxsim_tables.proofs.telling.tables_of.Goals as goal

pub returns-clause-rows : goal.returns-clause-rows
returns-clause-rows g c = (_, c.in_ok-found.ensures.of_texts, c.as_str.result.now, c.in_ok-rows.ensures)
