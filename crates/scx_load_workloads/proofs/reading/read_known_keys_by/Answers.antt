use Rattle.std.proofs.Common.{ℕ, ◌<◌, List, length, sym, ap, ◌∙◌, subst}
use Rattle.toml.specs.View.{table_view}
use Rattle.scx_weights.specs.declared.group.Group.{Group}
use Rattle.scx_weights.specs.Refusals.{first_fault}
use Rattle.scx_load_workloads.specs.declared.workload.Timing.{Timing}
use Rattle.scx_load_workloads.specs.Workload.{IsTiming, IsChange, timing_at, change_at}
use Rattle.scx_load_workloads.proofs.Forest.{tree_is_right}
use Rattle.scx_load_workloads.proofs.OwnWeights.{AreOwn, AreMasks}
use Rattle.scx_load_workloads.proofs.Bound.{masks_are_right}
use Rattle.scx_load_workloads.proofs.Whole.{read_whole, changes_fail}
use Rattle.scx_load_workloads.proofs.reading.read_known_keys_by.Goals as goal

pub invariant_of-result : goal.invariant_of-result
invariant_of-result c =
    let ms = table_view c.args.file.table.now in
    let groups = c.into_parts-groups.ensures in
    let tasks = c.into_parts-homes.ensures in
    let read = c.in_ok-tasks.ensures in
    let changes = c.in-Ok.ensures {u = tt} in
    record {
      some_cpus = c.in_ok-cpus.ensures.least;
      few_cpus = c.in_ok-cpus.ensures.most;
      some_ms = c.in_ok-ms.ensures.least;
      few_ms = c.in_ok-ms.ensures.most;
      seed = c.in_ok-seed.ensures.few;
      tree =
          ap (λ (gs : List Group). first_fault gs c.into_parts-homes.result.0.items) groups.groups
          ∙ ap (λ (hs : List ℕ). first_fault c.in_ok-groups.groups.groups hs) tasks.homes
          ∙ tree_is_right c.args.rules c.in_ok-cpus.cpus ms c.in_ok-groups.groups c.in_ok-tasks.tasks c.in_ok-groups.ensures read.tasks;
      some_tasks = rw tasks.homes read.some;
      few_tasks = rw tasks.homes read.few;
      named_groups = rw (groups.names, groups.groups) groups.even;
      named_tasks = rw (tasks.names, tasks.homes) tasks.named;
      masked = rw (tasks.masks, tasks.homes) tasks.masked;
      weighed = rw (tasks.own_weights, tasks.homes) tasks.weighed;
      timed = rw (tasks.timings, tasks.homes) tasks.timed;
      few_changes = changes.few;
      own_weights = subst AreOwn (sym tasks.own_weights) tasks.weights;
      masks = subst (AreMasks c.in_ok-cpus.cpus) (sym tasks.masks) (masks_are_right c.args.rules c.in_ok-cpus.cpus ms c.in_ok-groups.groups c.in_ok-tasks.tasks c.in_ok-cpus.ensures.least read.tasks);
      timings = subst (λ (xs : List Timing). (t : ℕ) → t < length xs → IsTiming (timing_at xs t)) (sym tasks.timings) tasks.times;
      changes =
          let xs = c.in-Ok.changes.items in
          subst (λ (hs : List ℕ). (i : ℕ) → i < length xs → IsChange (length c.into_parts-groups.result.0.items) (length hs) (change_at xs i)) (sym tasks.homes)
          (subst (λ (gs : List Group). (i : ℕ) → i < length xs → IsChange (length gs) (length c.in_ok-tasks.tasks.homes) (change_at xs i)) (sym groups.groups) changes.valid);
    }

pub returns-in-Ok : goal.returns-in-Ok
returns-in-Ok c =
    let ms = table_view c.args.file.table.now in
    let groups = c.into_parts-groups.ensures in
    let tasks = c.into_parts-homes.ensures in
    let read = c.in_ok-tasks.ensures in
    let changes = c.in-Ok.ensures {u = tt} in
    read_whole c.args.rules ms c.args.file.path.now _ c.in_ok-groups.groups c.in_ok-tasks.tasks c.requires c.in_ok-cpus.ensures.value c.in_ok-ms.ensures.value c.in_ok-seed.ensures.seed c.in_ok-groups.ensures read.tasks
    changes.changes groups.groups groups.names tasks.homes tasks.names tasks.own_weights tasks.masks tasks.timings

pub returns-in-Err : goal.returns-in-Err
returns-in-Err c =
    let changes = c.in-Err.ensures {u = tt} in
    changes_fail c.args.rules (table_view c.args.file.table.now) c.args.file.path.now c.in_ok-cpus.cpus c.in_ok-ms.ms c.in_ok-seed.seed c.in_ok-groups.groups c.in_ok-tasks.tasks c.in-Err.error c.requires
    c.in_ok-cpus.ensures.value c.in_ok-ms.ensures.value c.in_ok-seed.ensures.seed c.in_ok-groups.ensures c.in_ok-tasks.ensures.tasks changes.changes
