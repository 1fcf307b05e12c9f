use Rattle.std.proofs.Common.{◌≡◌}
use Rattle.scxsim_views.specs.Lengths.{all_added}
use Rattle.scxsim_views.proofs.length_counts.add_lengths.Given as goal

abbrev pub invariant-loop-length : goal.invariant-loop-length
invariant-loop-length l = all_added l.length-iterator l.lengths.entries ≡ all_added l.more.entries l.initial.lengths.entries
