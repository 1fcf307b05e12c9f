use Rattle.std.proofs.Common.{◌≡◌}
use Rattle.scx_sched_world.specs.First.{with_homes_below}
use Rattle.scx_sched_world.proofs.world.World.place_at_first_homes.Given as goal

-- those so far
abbrev pub invariant-loop-task : goal.invariant-loop-task
invariant-loop-task l = record {
  few : l.self.queues.pushes ≡ l.fn.self.queues.pushes;
  world : l.self ≡ with_homes_below l.task l.fn.self;
}
