use Rattle.scx_sched_policy.proofs.vain.+walk.Given as goal

abbrev pub decreases-walk : goal.decreases-walk
decreases-walk l = l.left
