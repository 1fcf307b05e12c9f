use Rattle.std.proofs.Common.{◌≡◌}
use Rattle.scxsim_statistics.specs.Losses.{wasted_below}
use Rattle.scxsim_statistics.proofs.losses.is_wasted_anywhere.Given as goal

abbrev pub invariant-loop-cpu : goal.invariant-loop-cpu
invariant-loop-cpu l = l.found ≡ wasted_below l.cpu l.sim.state.world l.pauses
