use Rattle.std.proofs.Common.{◌≡◌, take}
use Rattle.scx_maps.specs.Limits.{total_bytes}
use Rattle.scx_maps.proofs.defs.bytes_of_all.Given as goal

abbrev pub invariant-loop-shape : goal.invariant-loop-shape
invariant-loop-shape l = l.bytes ≡ total_bytes (take l.shape-index l.shapes)
