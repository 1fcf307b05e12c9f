use Rattle.std.proofs.Common.{◌≡◌}
use Rattle.scx_sched_world.specs.Ejecting.{after_cut}
use Rattle.scx_sched_world.proofs.world.World.cut.Given as goal

-- those on the processors so far
abbrev pub invariant-loop-cpu : goal.invariant-loop-cpu
invariant-loop-cpu l = record {
  few : l.self.queues.pushes ≡ l.fn.self.queues.pushes;
  world : l.self ≡ after_cut l.cpu l.fn.self;
}
