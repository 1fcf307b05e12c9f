use Rattle.std.proofs.Common.{◌≡◌, take}
use Rattle.scx_isa.specs.Spelling.{spelling}
use Rattle.scx_isa.proofs.encoding.write.Given as goal

abbrev pub invariant-loop-occupant : goal.invariant-loop-occupant
invariant-loop-occupant l = l.bytes.items ≡ spelling (take l.occupant-index l.occupants)
