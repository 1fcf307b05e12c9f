use Rattle.std.proofs.Common.{ℕ, ◌<◌}
use Rattle.scx_sched_world.specs.Kept.{StaysParked}
use Rattle.scx_sched_world.proofs.world.World.is_nobody_free.Given as goal

-- those so far stay
abbrev pub invariant-loop-task : goal.invariant-loop-task
invariant-loop-task l = (t : ℕ) → t < l.task → StaysParked l.self t
