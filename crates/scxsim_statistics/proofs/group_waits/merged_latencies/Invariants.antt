use Rattle.std.proofs.Common.{◌≡◌}
use Rattle.scxsim_statistics.specs.Latencies.{latencies_at}
use Rattle.scxsim_statistics.specs.Groups.{is_in, merged_below}
use Rattle.scxsim_statistics.proofs.group_waits.merged_latencies.Given as goal

abbrev pub invariant-loop-task : goal.invariant-loop-task
invariant-loop-task l = l.merged ≡ merged_below (is_in l.workload l.group) (λ t. (latencies_at l.latencies t).lengths) l.task
