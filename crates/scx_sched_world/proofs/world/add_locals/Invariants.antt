use Rattle.std.proofs.Common.{◌≡◌}
use Rattle.scx_dsq.specs.Queues.{task_count}
use Rattle.scx_sched_world.specs.First.{with_locals}
use Rattle.scx_sched_world.proofs.world.add_locals.Given as goal

abbrev pub invariant-loop-cpu : goal.invariant-loop-cpu
invariant-loop-cpu l = record {
  queues : l.queues.state ≡ with_locals l.cpu l.fn.queues.state;
  few : l.queues.state.pushes ≡ l.fn.queues.state.pushes;
  tasks : task_count l.queues.state ≡ task_count l.fn.queues.state;
}
