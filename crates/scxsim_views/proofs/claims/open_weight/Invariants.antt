use Rattle.std.proofs.Common.{◌≡◌, ◌≤◌, ◌*◌}
use Rattle.scx_weights.specs.Counting.{sum_below}
use Rattle.scxsim_views.specs.Claims.{claim_at, open_weight}
use Rattle.scxsim_views.proofs.claims.open_weight.Given as goal

abbrev pub invariant-loop-group : goal.invariant-loop-group
invariant-loop-group l =
    (l.sum ≡ sum_below l.group (λ g. open_weight l.family l.level (claim_at l.claims g)))
    × (l.sum ≤ l.group * 4294967295)
