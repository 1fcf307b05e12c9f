use Rattle.scxsim_explore.proofs.showing.write_list.Goals as goal

pub returns-clause-told : goal.returns-clause-told
returns-clause-told g c = rw c.begin_anew.ensures at c.write_told.ensures.text
