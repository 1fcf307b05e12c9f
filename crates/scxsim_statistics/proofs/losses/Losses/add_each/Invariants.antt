use Rattle.std.proofs.Common.{◌≡◌}
use Rattle.scxsim_statistics.specs.Losses.{lost_below}
use Rattle.scxsim_statistics.proofs.losses.Losses.add_each.Given as goal

abbrev pub invariant-loop-cpu : goal.invariant-loop-cpu
invariant-loop-cpu l = record {
  cpus : l.self.cpus.items ≡ lost_below l.cpu l.sim.state.world l.pauses l.initial.self.cpus.items;
  anywhere : l.self.anywhere ≡ l.initial.self.anywhere;
}
