use Rattle.std.proofs.Common.{◌≡◌, drop, length}
use Rattle.toml.specs.View.{items_view}
use Rattle.scx_load_workloads.specs.Reading.{fold_from, task_at, no_tasks}
use Rattle.scx_load_workloads.proofs.tasks.Tasks.read.Given as goal

abbrev pub invariant-loop-number : goal.invariant-loop-number
invariant-loop-number l = record {
  tasks : fold_from (task_at l.rules l.cpus l.fn.groups) l.tasks l.number (items_view (drop l.number l.values)) ≡ fold_from (task_at l.rules l.cpus l.fn.groups) no_tasks 0 (items_view l.values);
  count : length l.tasks.homes ≡ l.number;
}
