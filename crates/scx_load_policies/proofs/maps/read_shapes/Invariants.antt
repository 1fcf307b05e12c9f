use Rattle.std.proofs.Common.{◌≡◌}
use Rattle.toml.specs.View.{items_view}
use Rattle.scx_load_files.specs.Values.{each_from}
use Rattle.scx_load_files.proofs.Each.{left}
use Rattle.scx_load_policies.specs.Maps.{map_at}
use Rattle.scx_load_policies.proofs.maps.read_shapes.Given as goal

abbrev pub invariant-loop-number : goal.invariant-loop-number
invariant-loop-number l = left map_at l.elements l.number l.shapes.items ≡ each_from map_at 0 (items_view l.elements)
