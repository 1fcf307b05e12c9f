use Rattle.scx_sched_machine.proofs.machine.Machine.+tell_first.Given as goal

abbrev pub decreases-tell_first : goal.decreases-tell_first
decreases-tell_first g l = l.count
