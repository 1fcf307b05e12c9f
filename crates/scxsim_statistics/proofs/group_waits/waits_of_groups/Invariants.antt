use Rattle.std.proofs.Common.{◌≡◌}
use Rattle.scxsim_statistics.specs.Groups.{waits_below}
use Rattle.scxsim_statistics.proofs.group_waits.waits_of_groups.Given as goal

abbrev pub invariant-loop-group : goal.invariant-loop-group
invariant-loop-group l = l.groups.items ≡ waits_below l.workload l.tasks l.latencies l.group
