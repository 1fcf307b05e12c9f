use Rattle.std.proofs.Common.{◌≡◌, take}
use Rattle.scx_verify_explain.proofs.listing.code_of.Given as goal

abbrev pub invariant-loop-slot : goal.invariant-loop-slot
invariant-loop-slot l = l.code.items ≡ take l.slot l.program
