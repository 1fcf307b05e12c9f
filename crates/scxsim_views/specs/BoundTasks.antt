-- The tasks of a workload that may not run on all CPUs.
use Rattle.std.specs.Prelude.{ℕ, ◌==◌, if◌then◌else◌, Option, Some, None, slice_get}
use Rattle.scx_load_workloads.specs.Workload.{WorkloadState, all_cpus}

-- a mask, unless it has all CPUs
abbrev pub unless_all : ℕ → Option ℕ → Option ℕ
unless_all all None = None
unless_all all (Some mask) = if mask == all then None else Some mask

-- the mask of that task, if it is bound to some CPUs
abbrev pub bound_mask : WorkloadState → ℕ → Option ℕ
bound_mask w t = unless_all (all_cpus w.cpus) (slice_get w.masks t)
