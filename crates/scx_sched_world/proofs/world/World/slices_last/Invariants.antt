use Rattle.std.proofs.Common.{◌≡◌, ℕ, ◌*◌, ◌<◌, ◌≤◌, Some}
use Rattle.scx_sched_world.specs.World.{task_at, running}
use Rattle.scx_sched_world.specs.Tasks.{tick_ns}
use Rattle.scx_sched_world.proofs.world.World.slices_last.Given as goal

-- the tasks on the processors so far
abbrev pub invariant-loop-cpu : goal.invariant-loop-cpu
invariant-loop-cpu l = record {
  most : l.ms ≤ l.most;
  last : (c t : ℕ) → c < l.cpu → running l.self c ≡ Some t → 0 < l.ms → l.ms * tick_ns < (task_at l.self t).slice;
}
