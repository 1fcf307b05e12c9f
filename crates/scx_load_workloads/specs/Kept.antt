-- The meaning of the fields of a workload, and of its parts as they are read.
use Rattle.std.specs.Prelude.{◌≡◌, ℕ, ◌<◌, ◌≤◌, false, length, slice_index_or}
use Rattle.scx_load_workloads.specs.declared.workload.Workload.TheInside.{Inside}
use Rattle.scx_load_workloads.specs.declared.groups.Groups.TheInside.{Inside as InsideGroups}
use Rattle.scx_load_workloads.specs.declared.tasks.Tasks.TheInside.{Inside as InsideTasks}
use Rattle.scx_load_workloads.specs.Workload.{WorkloadState, IsOwnWeight, own_weight_at, IsTiming, timing_at}
use Rattle.scx_load_workloads.specs.KeptNames.{texts}
use Rattle.scx_load_workloads.specs.Reading.{GroupList, TaskList, has_children}

-- the workload that the fields of a `Workload` mean
abbrev pub state_of : Inside → WorkloadState
state_of w = record {
  cpus = w.cpus;
  ms = w.ms;
  seed = w.seed;
  groups = w.groups.items;
  group_names = texts w.group_names.items;
  homes = w.homes.items;
  task_names = texts w.task_names.items;
  own_weights = w.own_weights.items;
  masks = w.masks.items;
  timings = w.timings.items;
  changes = w.changes.items;
}

-- ---- as they are read

-- the groups, with their names, that the fields of a `Groups` mean
abbrev pub groups_of : InsideGroups → GroupList
groups_of g = record { names = g.names; groups = g.groups.items }

-- what holds of groups as they are read: each has a name, those with others below them are marked,
-- and there are 256 at most
pub record AreGroups (g : InsideGroups) : Type 0 where
  pub even : length g.names ≡ length g.groups.items
  pub few : length g.groups.items ≤ 256
  pub marked : length g.parents.items ≡ length g.groups.items
  pub parents : (k : ℕ)
      → slice_index_or g.parents.items k false ≡ has_children g.groups.items k

-- the tasks, with their names, that the fields of a `Tasks` mean
abbrev pub tasks_of : InsideTasks → TaskList
tasks_of t = record {
  names = t.names;
  homes = t.homes.items;
  own_weights = t.own_weights.items;
  masks = t.masks.items;
  timings = t.timings.items;
}

-- what holds of tasks as they are read: each has a name, a mask, and a weight and times that are in
-- their limits
pub record AreTasks (t : InsideTasks) : Type 0 where
  pub named : length t.names ≡ length t.homes.items
  pub weighed : length t.own_weights.items ≡ length t.homes.items
  pub masked : length t.masks.items ≡ length t.homes.items
  pub timed : length t.timings.items ≡ length t.homes.items
  pub own_weights : (k : ℕ)
      → k < length t.own_weights.items → IsOwnWeight (own_weight_at t.own_weights.items k)
  pub times : (k : ℕ) → k < length t.timings.items → IsTiming (timing_at t.timings.items k)
