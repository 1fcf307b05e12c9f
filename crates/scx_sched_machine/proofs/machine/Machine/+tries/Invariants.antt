use Rattle.scx_sched_machine.proofs.machine.Machine.+tries.Given as goal

abbrev pub decreases-tries : goal.decreases-tries
decreases-tries g l = l.left
