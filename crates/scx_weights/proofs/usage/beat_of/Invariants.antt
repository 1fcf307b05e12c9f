use Rattle.std.specs.Int.{◌∣◌}
use Rattle.std.proofs.Common.{ℕ, ◌<◌}
use Rattle.scx_weights.specs.Hierarchy.{period_at}
use Rattle.scx_weights.proofs.usage.beat_of.Given as goal

-- it divides those so far
abbrev pub invariant-loop-group : goal.invariant-loop-group
invariant-loop-group l = (g : ℕ) → g < l.group → l.beat ∣ period_at l.groups g
