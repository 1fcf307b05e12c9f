use Rattle.scx_sched_machine.proofs.machine.Machine.+tries_plainly.Given as goal

abbrev pub decreases-tries_plainly : goal.decreases-tries_plainly
decreases-tries_plainly g l = l.left
