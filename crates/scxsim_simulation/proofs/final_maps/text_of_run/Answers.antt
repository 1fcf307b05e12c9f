use Rattle.scxsim_simulation.proofs.final_maps.text_of_run.Goals as goal

pub returns-clause-text : goal.returns-clause-text
returns-clause-text g c = (c.in_ok-run.run'.scenario, c.in_ok-run.run'.sim, c.in_ok-run.ensures.run, c.in_ok-text_after.ensures)
