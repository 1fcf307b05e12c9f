use Rattle.scx_sched_world.proofs.counting.pop_at.Given as goal

abbrev pub ghosts-pop_at_counted : goal.ghosts-pop_at_counted
ghosts-pop_at_counted a = record { name = a.blank.name; parts = a.blank.parts }
