use Rattle.scx_explore_audit.specs.Closed.{AreQueuesOf}
use Rattle.scx_explore_audit.proofs.queues.meet_tasks.Given as goal

-- the queues that were met are the machine's
abbrev pub invariant-loop-task : goal.invariant-loop-task
invariant-loop-task l = AreQueuesOf l.sim l.met
