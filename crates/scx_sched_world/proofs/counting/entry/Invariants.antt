use Rattle.scx_sched_world.proofs.counting.entry.Given as goal

abbrev pub ghosts-entry_uncounted : goal.ghosts-entry_uncounted
ghosts-entry_uncounted a = record { name = a.blank.name; parts = a.blank.parts }
