use Rattle.std.proofs.Common.{◌≡◌, drop}
use Rattle.scx_maps.specs.Contents.{are_arrays}
use Rattle.scx_maps.proofs.defs.MapDefs.are_arrays.Given as goal

abbrev pub invariant-loop-shape : goal.invariant-loop-shape
invariant-loop-shape l = are_arrays (drop l.shape-index l.shape-items) ≡ are_arrays l.shape-items
