use Rattle.scx_sched_machine.proofs.machine.Machine.+park_next.Given as goal

abbrev pub decreases-park_next : goal.decreases-park_next
decreases-park_next g l = l.left
