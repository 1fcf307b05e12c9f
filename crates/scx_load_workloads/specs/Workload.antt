-- A workload: its groups and tasks; weights, CPUs and times of the tasks; changes of weights.
use Rattle.std.specs.Prelude.{◌≡◌, ℕ, ◌-◌, ◌^◌, ◌<◌, ◌≤◌, Bool, ◌==◌, not, List, length, None, slice_index_or}
use Rattle.std.specs.List.{list_any}
use Rattle.scx_weights.specs.declared.group.Group.{Group}
use Rattle.scx_weights.specs.Hierarchy.{Hierarchy, idle, masks_in, with_masks, with_own_weights}
use Rattle.scx_weights.specs.Refusals.{first_fault}
use Rattle.scx_load_workloads.specs.declared.workload.Timing.{Timing}
use Rattle.scx_load_workloads.specs.declared.workload.Weighed.{Weighed}
use Rattle.scx_load_workloads.specs.declared.workload.Weighed.TheVariants as which
use Rattle.scx_load_workloads.specs.declared.workload.Change.{Change}

-- the most milliseconds of a workload, and of each time of a task
abbrev pub max_ms : ℕ
max_ms = 1000000

-- what a workload file says: processors, milliseconds, where random numbers begin, groups, tasks
-- with their own weights and the processors on which they may run, and changes of weights of groups
-- and tasks
pub record WorkloadState : Type 0 where
  pub cpus : ℕ
  pub ms : ℕ
  pub seed : ℕ
  pub groups : List Group
  pub group_names : List (List ℕ)
  pub homes : List ℕ  -- the group of each task
  pub task_names : List (List ℕ)
  pub own_weights : List ℕ  -- of each task itself
  pub masks : List ℕ  -- of each task, one bit a processor
  pub timings : List Timing  -- of each task
  pub changes : List Change

-- the mask of all processors of a machine
abbrev pub all_cpus : ℕ → ℕ
all_cpus cpus = 2 ^ cpus - 1

-- tasks are bound: there is one that may not run on all processors
abbrev pub is_bound : ℕ → List ℕ → Bool
is_bound cpus masks = list_any (λ mask. not (mask == all_cpus cpus)) masks

-- the groups and tasks of a workload as a machine begins with them: no task is active
abbrev pub first_tree : WorkloadState → Hierarchy
first_tree w =
    with_masks (with_own_weights (idle w.groups w.homes) w.own_weights)
    (masks_in (is_bound w.cpus w.masks) w.masks)

-- when the task of that number works; all times are 0 where there is none
abbrev pub timing_at : List Timing → ℕ → Timing
timing_at timings t = slice_index_or timings t (record { start = 0; run = 0; sleep = 0 })

-- the change of that number in the order of the file; all of it is 0 where there is none
abbrev pub change_at : List Change → ℕ → Change
change_at changes i =
    slice_index_or changes i (record { at = 0; weighed = which.Group 0; weight = 0 })

-- the weight that the task of that number has itself; 0 where there is none
abbrev pub own_weight_at : List ℕ → ℕ → ℕ
own_weight_at own_weights t = slice_index_or own_weights t 0

-- the mask of the task of that number; 0 where there is none
abbrev pub mask_at : List ℕ → ℕ → ℕ
mask_at masks t = slice_index_or masks t 0

-- a task itself has a weight of 1 to 10000
pub record IsOwnWeight (w : ℕ) : Type 0 where
  pub least : 1 ≤ w
  pub greatest : w ≤ 10000

-- a task may run on some processor, and on none that isn't there
pub record IsMask (cpus mask : ℕ) : Type 0 where
  pub some : 0 < mask
  pub there : mask < 2 ^ cpus

-- no time of a task exceeds the most milliseconds of a workload
pub record IsTiming (t : Timing) : Type 0 where
  pub start : t.start ≤ max_ms
  pub run : t.run ≤ max_ms
  pub sleep : t.sleep ≤ max_ms

-- one of this number of groups, or of this number of tasks
abbrev pub IsWeighed : ℕ → ℕ → Weighed → Type 0
IsWeighed groups tasks (which.Group g) = g < groups
IsWeighed groups tasks (which.Task t) = t < tasks

-- a change of a weight of one of this number of groups, or of this number of tasks
pub record IsChange (groups tasks : ℕ) (c : Change) : Type 0 where
  pub weighed : IsWeighed groups tasks c.weighed
  pub least : 1 ≤ c.weight
  pub greatest : c.weight ≤ 10000

-- what holds of every workload: its numbers and lists are in their limits, its groups make a tree
pub record IsWorkload (w : WorkloadState) : Type 0 where
  pub some_cpus : 1 ≤ w.cpus
  pub few_cpus : w.cpus ≤ 64
  pub some_ms : 1 ≤ w.ms
  pub few_ms : w.ms ≤ max_ms
  pub seed : w.seed < 2 ^ 63
  pub tree : first_fault w.groups w.homes ≡ None
  pub some_tasks : 1 ≤ length w.homes
  pub few_tasks : length w.homes ≤ 1024
  pub named_groups : length w.group_names ≡ length w.groups
  pub named_tasks : length w.task_names ≡ length w.homes
  pub weighed : length w.own_weights ≡ length w.homes
  pub masked : length w.masks ≡ length w.homes
  pub timed : length w.timings ≡ length w.homes
  pub few_changes : length w.changes ≤ 1024
  pub own_weights : (t : ℕ)
      → t < length w.own_weights → IsOwnWeight (own_weight_at w.own_weights t)
  pub masks : (t : ℕ) → t < length w.masks → IsMask w.cpus (mask_at w.masks t)
  pub timings : (t : ℕ) → t < length w.timings → IsTiming (timing_at w.timings t)
  pub changes : (i : ℕ)
      → i < length w.changes → IsChange (length w.groups) (length w.homes) (change_at w.changes i)
