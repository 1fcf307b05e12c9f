use Rattle.std.proofs.Common.{◌≡◌, [], None, codes}
use Rattle.toml.specs.View.{table_view}
use Rattle.scx_load_files.specs.Unknown.{words, least_path, least_with, unknown, unknown_in_each}
use Rattle.scx_load_files.proofs.Least.{four_looks}
use Rattle.scx_load_workloads.specs.Reading.{file_keys, group_keys, task_keys, change_keys}
use Rattle.scx_load_workloads.proofs.reading.check_keys.Goals as goal

pub returns : goal.returns
returns c =
    let ms = table_view c.args.file.table.now in
    let names : words c.file_keys.result.now ≡ file_keys c.args.rules = c.file_keys.ensures in
    let first : least_path c.in_ok-in_section.field-0 ≡ least_with None (unknown (file_keys c.args.rules) [] ms) = rw (c.none.ensures, c.requires, names) at c.in_ok-in_section.ensures in
    let second : least_path c.in_ok-below_each.field-0 ≡ least_with (least_path c.in_ok-in_section.field-0) (unknown_in_each group_keys [] (codes "group") ms) = rw c.requires at c.in_ok-below_each.ensures in
    let keys : words c.task_keys.result.now ≡ task_keys c.args.rules = c.task_keys.ensures in
    let third : least_path c.in_ok-below_each-2.field-0 ≡ least_with (least_path c.in_ok-below_each.field-0) (unknown_in_each (task_keys c.args.rules) [] (codes "task") ms) = rw (c.requires, keys) at c.in_ok-below_each-2.ensures in
    let more : words c.change_keys.result.now ≡ change_keys c.args.rules = c.change_keys.ensures in
    let fourth : least_path c.in_ok-unknown.unknown ≡ least_with (least_path c.in_ok-below_each-2.field-0) (unknown_in_each (change_keys c.args.rules) [] (codes "change") ms) = rw (c.requires, more) at c.in_ok-unknown.ensures in
    let all = rw (third, second, first) at fourth in
    rw (all, four_looks (unknown (file_keys c.args.rules) [] ms) (unknown_in_each group_keys [] (codes "group") ms) (unknown_in_each (task_keys c.args.rules) [] (codes "task") ms) (unknown_in_each (change_keys c.args.rules) [] (codes "change") ms)) at c.refuse.ensures
