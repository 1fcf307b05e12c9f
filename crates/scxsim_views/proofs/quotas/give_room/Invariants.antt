use Rattle.std.proofs.Common.{◌≡◌}
use Rattle.scxsim_views.specs.Claims.{all_roomy}
use Rattle.scxsim_views.proofs.quotas.give_room.Given as goal

abbrev pub invariant-loop-index : goal.invariant-loop-index
invariant-loop-index l = l.claims ≡ all_roomy l.index l.groups l.shares l.ran l.initial.claims
