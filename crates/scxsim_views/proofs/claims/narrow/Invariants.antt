use Rattle.std.proofs.Common.{◌≡◌, length}
use Rattle.scxsim_views.specs.Claims.{narrowed}
use Rattle.scxsim_views.proofs.claims.narrow.Given as goal

abbrev pub invariant-loop-group : goal.invariant-loop-group
invariant-loop-group l = narrowed l.group l.claims ≡ narrowed (length l.initial.claims) l.initial.claims
