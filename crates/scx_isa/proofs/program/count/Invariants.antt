use Rattle.std.proofs.Common.{◌≡◌, take, count_by, is_some}
use Rattle.scx_isa.proofs.program.count.Given as goal

abbrev pub invariant-loop-occupant : goal.invariant-loop-occupant
invariant-loop-occupant g l = l.count ≡ count_by is_some (take l.occupant-index l.occupants)
