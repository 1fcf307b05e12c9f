use Rattle.std.proofs.Common.{◌≡◌, ◌+◌, ◌-◌}
use Rattle.scx_abs.specs.Calls.{are_written}
use Rattle.scx_abs.proofs.calls.are_written.Given as goal

-- what is left says whether all are written
abbrev pub invariant-loop-byte : goal.invariant-loop-byte
invariant-loop-byte l =
    are_written l.state l.byte (l.at + l.count - l.byte) ≡ are_written l.state l.at l.count
