use Rattle.std.proofs.Common.{ℕ, ◌-◌, ◌<◌}
use Rattle.scxsim_views.specs.Claims.{taken}
use Rattle.scxsim_views.proofs.claims.level_of.Given as goal

abbrev pub invariant-loop-step : goal.invariant-loop-step
invariant-loop-step l = (k : ℕ) → k < l.level → taken l.claims l.family k < l.amount

abbrev pub decreases-loop-step : goal.decreases-loop-step
decreases-loop-step l = l.amount - taken l.claims l.family l.level
