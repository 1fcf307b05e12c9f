use Rattle.std.proofs.Common.{◌≡◌}
use Rattle.scxsim_views.specs.Lengths.{first_reaching}
use Rattle.scxsim_views.proofs.length_counts.first_reaching.Given as goal

abbrev pub invariant-loop-length : goal.invariant-loop-length
invariant-loop-length l = first_reaching l.enough l.passed l.length-iterator ≡ first_reaching l.enough 0 l.lengths.entries
