use Rattle.std.proofs.Common.{◌≡◌, ◌-◌}
use Rattle.scx_weights.specs.Counting.{sum_below}
use Rattle.scxsim_views.specs.Claims.{claim_at, room_in}
use Rattle.scxsim_views.proofs.claims.rooms_up_to.Given as goal

abbrev pub invariant-loop-group : goal.invariant-loop-group
invariant-loop-group l = l.left ≡ l.most - sum_below l.group (λ g. room_in l.family (claim_at l.claims g))
