use Rattle.scx_explore_audit.proofs.Numbered.{queues_before, queues_behind}
use Rattle.scx_explore_audit.proofs.queues.meet_after.Goals as goal

pub meet_tasks-requires : goal.meet_tasks-requires
meet_tasks-requires c = queues_behind c.args.path.now _ _ c.sim.ensures c.requires

pub returns : goal.returns
returns c = queues_before c.args.path.now _ _ c.sim.ensures c.meet_tasks.ensures
