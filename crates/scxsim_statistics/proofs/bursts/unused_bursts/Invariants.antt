use Rattle.std.proofs.Common.{◌≡◌, replicate}
use Rattle.scxsim_statistics.specs.Bursts.{no_bursts}
use Rattle.scxsim_statistics.proofs.bursts.unused_bursts.Given as goal

abbrev pub invariant-loop : goal.invariant-loop
invariant-loop l = l.bursts.items ≡ replicate l.counter no_bursts
