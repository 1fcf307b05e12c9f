use Rattle.std.proofs.Common.{◌≡◌, ◌+◌, ◌-◌}
use Rattle.scx_abs.specs.Cells.{all_written}
use Rattle.scx_abs.proofs.kinds.all_written.Given as goal

abbrev pub invariant-loop-byte : goal.invariant-loop-byte
invariant-loop-byte l = all_written l.set l.byte (l.first + l.count - l.byte) ≡ all_written l.set l.first l.count
