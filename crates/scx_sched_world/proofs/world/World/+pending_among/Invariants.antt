use Rattle.scx_sched_world.proofs.world.World.+pending_among.Given as goal

abbrev pub decreases-pending_among : goal.decreases-pending_among
decreases-pending_among l = l.asked
