use Rattle.std.proofs.Common.{◌≡◌, false}
use Rattle.scx_weights.specs.Counting.{any_below}
use Rattle.scx_sched_world.specs.World.{is_this, current}
use Rattle.scx_sched_world.proofs.world.World.is_current.Given as goal

-- on none so far
abbrev pub invariant-loop-cpu : goal.invariant-loop-cpu
invariant-loop-cpu l = any_below l.cpu (λ c. is_this l.task (current l.self c)) ≡ false
