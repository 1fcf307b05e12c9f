use Rattle.std.proofs.Common.{◌≡◌, replicate}
use Rattle.scxsim_statistics.specs.Counting.{no_figures}
use Rattle.scxsim_statistics.proofs.tally.unused_tasks.Given as goal

abbrev pub invariant-loop : goal.invariant-loop
invariant-loop l = l.tasks.items ≡ replicate l.counter no_figures
