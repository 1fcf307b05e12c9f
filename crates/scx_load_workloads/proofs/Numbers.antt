-- Numbers of groups and tasks are small.
use Rattle.std.proofs.Common.{◌≤◌, length, arith}
use Rattle.scx_weights.proofs.Admitted.{idle_is_kept}
use Rattle.scx_load_workloads.specs.Workload.{WorkloadState, IsWorkload}

-- a workload has 256 groups at most
pub few_groups : (w : WorkloadState) → IsWorkload w → length w.group_names ≤ 256
few_groups w whole = let few = (idle_is_kept w.groups w.homes whole.tree).forest.few in omega (arith, few, whole.named_groups)
