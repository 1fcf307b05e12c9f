use Rattle.scx_sched_world.proofs.counting.first_among.Given as goal

abbrev pub ghosts-first_among_counted : goal.ghosts-first_among_counted
ghosts-first_among_counted g a = record { name = a.blank.name; parts = a.blank.parts }
