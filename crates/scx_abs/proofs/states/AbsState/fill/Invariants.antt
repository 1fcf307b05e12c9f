use Rattle.std.proofs.Common.{◌≡◌, ◌+◌, ◌-◌}
use Rattle.scx_abs.specs.Calls.{with_written}
use Rattle.scx_abs.proofs.states.AbsState.fill.Given as goal

-- what is left makes the state that is wanted
abbrev pub invariant-loop-byte : goal.invariant-loop-byte
invariant-loop-byte l = with_written l.self l.byte (l.at + l.count - l.byte) ≡ with_written l.initial.self l.at l.count
