use Rattle.scx_sched_world.proofs.counting.remove.Given as goal

abbrev pub ghosts-remove_counted : goal.ghosts-remove_counted
ghosts-remove_counted a = record { name = a.blank.name; parts = a.blank.parts }
