use Rattle.scx_sched_machine.proofs.machine.Machine.+let_go_from.Given as goal

abbrev pub decreases-let_go_from : goal.decreases-let_go_from
decreases-let_go_from g l = l.left
