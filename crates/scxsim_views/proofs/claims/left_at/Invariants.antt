use Rattle.std.proofs.Common.{◌≡◌, ◌-◌}
use Rattle.scx_weights.specs.Counting.{sum_below}
use Rattle.scxsim_views.specs.Claims.{claim_at, takes}
use Rattle.scxsim_views.proofs.claims.left_at.Given as goal

abbrev pub invariant-loop-group : goal.invariant-loop-group
invariant-loop-group l = l.left ≡ l.amount - sum_below l.group (λ g. takes l.family l.level (claim_at l.claims g))
