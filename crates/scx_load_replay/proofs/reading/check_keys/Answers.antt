use Rattle.std.proofs.Common.{◌≡◌, [], None, codes}
use Rattle.toml.specs.View.{table_view}
use Rattle.scx_load_files.specs.Unknown.{words, least_path, least_with, unknown, unknown_in_each}
use Rattle.scx_load_workloads.specs.Reading.{group_keys}
use Rattle.scx_load_replay.specs.Reading.{file_keys, task_keys}
use Rattle.scx_load_replay.proofs.Keys.{three_looks}
use Rattle.scx_load_replay.proofs.reading.check_keys.Goals as goal

pub returns : goal.returns
returns c =
    let ms = table_view c.args.file.table.now in
    let names : words c.file_keys.result.now ≡ file_keys c.args.rules = c.file_keys.ensures in
    let first : least_path c.in_ok-in_section.field-0 ≡ least_with None (unknown (file_keys c.args.rules) [] ms) = rw (c.none.ensures, c.requires, names) at c.in_ok-in_section.ensures in
    let second : least_path c.in_ok-below_each.field-0 ≡ least_with (least_path c.in_ok-in_section.field-0) (unknown_in_each group_keys [] (codes "group") ms) = rw c.requires at c.in_ok-below_each.ensures in
    let keys : words c.task_keys.result.now ≡ task_keys c.args.rules = c.task_keys.ensures in
    let third : least_path c.in_ok-unknown.unknown ≡ least_with (least_path c.in_ok-below_each.field-0) (unknown_in_each (task_keys c.args.rules) [] (codes "task") ms) = rw (c.requires, keys) at c.in_ok-unknown.ensures in
    let all = rw (second, first) at third in
    rw (all, three_looks (unknown (file_keys c.args.rules) [] ms) (unknown_in_each group_keys [] (codes "group") ms) (unknown_in_each (task_keys c.args.rules) [] (codes "task") ms)) at c.refuse.ensures
