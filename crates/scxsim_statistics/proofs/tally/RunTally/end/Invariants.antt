use Rattle.std.proofs.Common.{◌≡◌, false}
use Rattle.std.specs.Prelude.{is_err}
use Rattle.scxsim_statistics.specs.Counting.{ended_below}
use Rattle.scxsim_statistics.proofs.tally.RunTally.end.Given as goal

abbrev pub invariant-loop-task : goal.invariant-loop-task
invariant-loop-task l = record {
  before : is_err l.self.result ≡ false → is_err l.initial.self.result ≡ false;
  tasks : is_err l.self.result ≡ false → l.self.tasks.items ≡ ended_below l.task l.sim.state.world l.initial.self.pauses l.initial.self.tasks.items;
  cpus : l.self.cpus ≡ l.initial.self.cpus;
  bursts : l.self.bursts ≡ l.initial.self.bursts;
  latencies : l.self.latencies ≡ l.initial.self.latencies;
  losses : l.self.losses ≡ l.initial.self.losses;
  pauses : l.self.pauses ≡ l.initial.self.pauses;
}
