use Rattle.scx_sched_machine.proofs.machine.Machine.+clear.Given as goal

abbrev pub decreases-clear : goal.decreases-clear
decreases-clear g l = l.left
