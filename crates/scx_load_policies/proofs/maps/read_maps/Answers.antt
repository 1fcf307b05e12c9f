use Rattle.std.proofs.Common.{◌≡◌, [], Ok, codes}
use Rattle.toml.specs.Data.{no_items}
use Rattle.toml.specs.View.{table_view, items_view}
use Rattle.scx_maps.specs.declared.defs.TheConstants.{MAX_MAPS}
use Rattle.scx_maps.specs.Limits.{AreWithinLimits}
use Rattle.scx_load_files.specs.Values.{optional, elements_of, each_from}
use Rattle.scx_load_policies.specs.Maps.{map_at}
use Rattle.scx_load_policies.proofs.Within.{too_large, not_ok}
use Rattle.scx_load_policies.proofs.maps.read_maps.Goals as goal

pub returns : goal.returns
returns c =
    let ms = table_view c.args.file.table.now in
    let shapes = c.in_ok-shapes.shapes.items in
    let elements : optional (elements_of MAX_MAPS) no_items [] (codes "map") ms ≡ Ok (items_view c.in_ok-elements.elements.now) = rw c.requires at c.in_ok-elements.ensures in
    let read : each_from map_at 0 (items_view c.in_ok-elements.elements.now) ≡ Ok shapes = c.in_ok-shapes.ensures in
    let broken : ¬ AreWithinLimits shapes = not_ok c.new.result c.in-Err.field-0 (AreWithinLimits shapes) c.in-Err.is (rw c.deref.ensures.value at c.new.ensures.accepted) in
    rw (elements, read, too_large ms (items_view c.in_ok-elements.elements.now) shapes elements read broken) c.refused.ensures
