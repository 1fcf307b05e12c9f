use Rattle.std.proofs.Common.{◌≡◌, ℕ, ◌<◌, [], drop, length}
use Rattle.toml.specs.View.{items_view}
use Rattle.scx_load_workloads.specs.Workload.{IsChange, change_at}
use Rattle.scx_load_workloads.specs.Reading.{fold_from, with_change}
use Rattle.scx_load_workloads.proofs.reading.read_changes.Given as goal

abbrev pub invariant-loop-number : goal.invariant-loop-number
invariant-loop-number l = record {
  changes : fold_from (with_change l.rules l.fn.groups l.fn.tasks) l.changes.items l.number (items_view (drop l.number l.values)) ≡ fold_from (with_change l.rules l.fn.groups l.fn.tasks) [] 0 (items_view l.values);
  count : length l.changes.items ≡ l.number;
  valid : (i : ℕ) → i < length l.changes.items → IsChange (length l.fn.groups.groups) (length l.fn.tasks.homes) (change_at l.changes.items i);
}
