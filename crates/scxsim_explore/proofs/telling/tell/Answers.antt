use Rattle.scxsim_explore.proofs.telling.tell.Goals as goal

pub returns-clause-ok : goal.returns-clause-ok
returns-clause-ok g c = rw (c.gather_found-found.ensures.same, c.search-end.ensures.bounds, c.new-course.ensures.bounds) at c.write_end-told.ensures.ok
