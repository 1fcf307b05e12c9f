use Rattle.std.proofs.Common.{◌≡◌}
use Rattle.scxsim_views.specs.Claims.{with_dues}
use Rattle.scxsim_views.proofs.quotas.add_dues.Given as goal

abbrev pub invariant-loop-group : goal.invariant-loop-group
invariant-loop-group l = l.due ≡ with_dues l.group l.claims l.levels l.initial.due
