use Rattle.std.proofs.Common.{◌≡◌, ℕ, ◌+◌, ◌*◌, ◌^◌, ◌≤◌}
use Rattle.scx_weights.specs.Limits.{usage_of}
use Rattle.scx_sched_world.specs.World.{task_at}
use Rattle.scx_sched_world.specs.Quiet.{all_ticked}
use Rattle.scx_sched_world.proofs.world.World.tick_all_for.Given as goal

-- those so far; a task runs on each processor at most
abbrev pub invariant-loop-cpu : goal.invariant-loop-cpu
invariant-loop-cpu l = record {
  world : l.self ≡ all_ticked l.ms l.cpu l.fn.self;
  early : (t : ℕ) → (task_at l.self t).run_ns ≤ 2 ^ 56 + l.cpu * 2 ^ 52;
  used : (g : ℕ) → usage_of l.self.tree g ≤ 2 ^ 56 + l.cpu * 2 ^ 32;
}
