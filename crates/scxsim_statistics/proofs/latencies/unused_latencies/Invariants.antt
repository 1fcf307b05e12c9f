use Rattle.std.proofs.Common.{◌≡◌, replicate}
use Rattle.scxsim_statistics.specs.Latencies.{no_latencies}
use Rattle.scxsim_statistics.proofs.latencies.unused_latencies.Given as goal

abbrev pub invariant-loop : goal.invariant-loop
invariant-loop l = l.latencies.items ≡ replicate l.counter no_latencies
