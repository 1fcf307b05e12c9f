use Rattle.std.proofs.Common.{◌≡◌, ℕ, ◌+◌, ◌*◌, ◌<◌, ◌≤◌, Some, slice_index}
use Rattle.scx_sched_world.specs.World.{task_at, running}
use Rattle.scx_sched_world.specs.Tasks.{tick_ns}
use Rattle.scx_load_driver.proofs.skipping.runs_last.Given as goal

-- the tasks on the processors so far
abbrev pub invariant-loop-cpu : goal.invariant-loop-cpu
invariant-loop-cpu l = record {
  most : l.ms ≤ l.most;
  last : (c t : ℕ) → c < l.cpu → running l.sim.state.world c ≡ Some t → 0 < l.ms → (task_at l.sim.state.world t).run_ns + l.ms * tick_ns ≤ slice_index l.last_ticks t;
}
