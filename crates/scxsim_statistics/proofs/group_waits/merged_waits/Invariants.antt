use Rattle.std.proofs.Common.{◌≡◌}
use Rattle.scxsim_statistics.specs.Counting.{figures_at}
use Rattle.scxsim_statistics.specs.Groups.{is_in, merged_below}
use Rattle.scxsim_statistics.proofs.group_waits.merged_waits.Given as goal

abbrev pub invariant-loop-task : goal.invariant-loop-task
invariant-loop-task l = l.waits ≡ merged_below (is_in l.workload l.group) (λ t. (figures_at l.tasks t).waits) l.task
