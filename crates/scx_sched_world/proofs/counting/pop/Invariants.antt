use Rattle.scx_sched_world.proofs.counting.pop.Given as goal

abbrev pub ghosts-pop_counted : goal.ghosts-pop_counted
ghosts-pop_counted a = record { name = a.blank.name; parts = a.blank.parts }
