use Rattle.std.proofs.Common.{◌≡◌}
use Rattle.scxsim_layout.specs.Areas.{stacked}
use Rattle.scxsim_layout.proofs.grids.Grid.stacked.Given as goal

abbrev pub invariant-loop-row : goal.invariant-loop-row
invariant-loop-row l = l.ms ≡ stacked l.row l.self l.column
