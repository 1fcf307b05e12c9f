use Rattle.std.proofs.Common.{◌≡◌, [], None, codes}
use Rattle.toml.specs.View.{table_view}
use Rattle.scx_load_files.specs.Unknown.{words, least_path, least_with, unknown, unknown_in, unknown_in_each}
use Rattle.scx_load_files.proofs.Least.{five_looks}
use Rattle.scx_load_policies.specs.Reading.{timer_keys}
use Rattle.scx_load_policies.proofs.reading.check_beside.Goals as goal

pub returns : goal.returns
returns c =
    let ms = table_view c.args.file.table.now in
    let top = words c.args.keys.now in
    let maps = words c.args.of_maps.now in
    let first : least_path c.in_ok-in_section.field-0 ≡ least_with None (unknown top [] ms) = rw (c.none.ensures, c.requires) at c.in_ok-in_section.ensures in
    let second : least_path c.in_ok-below_each.field-0 ≡ least_with (least_path c.in_ok-in_section.field-0) (unknown_in_each maps [] (codes "map") ms) = rw c.requires at c.in_ok-below_each.ensures in
    let third : least_path c.in_ok-below_each-2.field-0 ≡ least_with (least_path c.in_ok-below_each.field-0) (unknown_in_each timer_keys [] (codes "timer") ms) = rw c.requires at c.in_ok-below_each-2.ensures in
    let keys = words c.args.callbacks.now in
    let fourth : least_path c.in_ok-below.field-0 ≡ least_with (least_path c.in_ok-below_each-2.field-0) (unknown_in keys [] (codes "code") ms) = rw c.requires at c.in_ok-below.ensures in
    let fifth : least_path c.in_ok-unknown.unknown ≡ least_with (least_path c.in_ok-below.field-0) (unknown_in keys [] (codes "slots") ms) = rw c.requires at c.in_ok-unknown.ensures in
    let all = rw (fourth, third, second, first) at fifth in
    rw (all, five_looks (unknown top [] ms) (unknown_in_each maps [] (codes "map") ms) (unknown_in_each timer_keys [] (codes "timer") ms) (unknown_in keys [] (codes "code") ms) (unknown_in keys [] (codes "slots") ms)) at c.refuse.ensures
