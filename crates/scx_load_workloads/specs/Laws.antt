-- A workload for plain rules says nothing of weights of tasks, of CPUs on which a task may run, and
-- of random numbers.
use Rattle.std.specs.Prelude.{◌≡◌, ℕ, List, length, replicate, Ok}
use Rattle.scx_weights.specs.Hierarchy.{idle}
use Rattle.scx_load_workloads.specs.Workload.{WorkloadState, all_cpus, first_tree}
use Rattle.scx_load_workloads.specs.Reading.{workload_of}

-- in a workload that is read for plain rules each task has the default weight itself
abbrev pub PlainTasksWeighAlike : Type 0
PlainTasksWeighAlike =
    (text : List ℕ) (w : WorkloadState)
    → workload_of text ≡ Ok w → first_tree w ≡ idle w.groups w.homes

-- each task of a workload may run on all CPUs, and random numbers begin at 0
pub record IsUnbound (w : WorkloadState) : Type 0 where
  pub masks : w.masks ≡ replicate (length w.homes) (all_cpus w.cpus)
  pub seed : w.seed ≡ 0

-- in a workload read for plain rules each task may run on all CPUs, and random numbers begin at 0
abbrev pub PlainTasksAreUnbound : Type 0
PlainTasksAreUnbound =
    (text : List ℕ) (w : WorkloadState) → workload_of text ≡ Ok w → IsUnbound w
