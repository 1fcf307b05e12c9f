use Rattle.scx_verify.specs.Pass.{IsVisited}
use Rattle.scx_verify_explain.proofs.listing.pass_of.Given as goal

abbrev pub invariant-loop-slot : goal.invariant-loop-slot
invariant-loop-slot l = IsVisited l.context l.program l.slot l.states.items
