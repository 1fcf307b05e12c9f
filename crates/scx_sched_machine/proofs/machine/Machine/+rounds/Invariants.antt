use Rattle.scx_sched_machine.proofs.machine.Machine.+rounds.Given as goal

abbrev pub decreases-rounds : goal.decreases-rounds
decreases-rounds g l = l.left
