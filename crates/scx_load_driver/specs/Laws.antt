-- No event of a workload is refused.
use Rattle.scx_sched_policy.specs.Policy.{PolicyState}
use Rattle.scx_sched.specs.Sim.{SimState, IsFirstState}
use Rattle.scx_load_workloads.specs.Workload.{WorkloadState, IsWorkload, first_tree}
use Rattle.scx_load_driver.specs.Runs.{AreAccepted}
use Rattle.scx_load_driver.specs.Events.{workload_events}

-- in a machine that was made of the workload's processors, groups and tasks, with any policy
abbrev pub NoEventIsRefused : Type 0
NoEventIsRefused =
    (w : WorkloadState) (p : PolicyState) (s : SimState)
    → IsWorkload w → IsFirstState p (first_tree w) w.cpus s
    → AreAccepted s (workload_events w s)
