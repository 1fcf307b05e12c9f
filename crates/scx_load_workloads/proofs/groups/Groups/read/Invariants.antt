use Rattle.std.proofs.Common.{◌≡◌, drop, length}
use Rattle.toml.specs.View.{items_view}
use Rattle.scx_load_workloads.specs.Reading.{fold_from, group_at, no_groups}
use Rattle.scx_load_workloads.proofs.groups.Groups.read.Given as goal

abbrev pub invariant-loop-number : goal.invariant-loop-number
invariant-loop-number l = record {
  groups : fold_from group_at l.groups l.number (items_view (drop l.number l.values)) ≡ fold_from group_at no_groups 0 (items_view l.values);
  count : length l.groups.groups ≡ l.number;
}
