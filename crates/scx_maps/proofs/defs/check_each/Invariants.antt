use Rattle.std.proofs.Common.{take}
use Rattle.std.specs.Prelude.{All}
use Rattle.scx_maps.specs.Limits.{IsWithinLimits}
use Rattle.scx_maps.proofs.defs.check_each.Given as goal

abbrev pub invariant-loop-map : goal.invariant-loop-map
invariant-loop-map l = All IsWithinLimits (take l.map l.shapes)
