use Rattle.std.proofs.Common.{◌≡◌, ◌≤◌, length}
use Rattle.scxsim_simulation.specs.MapLines.{up_to_last}
use Rattle.scxsim_simulation.proofs.map_values.up_to_last.Given as goal

-- the bytes after these are 0
abbrev pub invariant-loop-count : goal.invariant-loop-count
invariant-loop-count l = record {
  last : up_to_last l.value (length l.value) ≡ up_to_last l.value l.count;
  most : l.count ≤ length l.value;
}

abbrev pub decreases-loop-count : goal.decreases-loop-count
decreases-loop-count l = l.count
