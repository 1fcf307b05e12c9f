use Rattle.scx_verify_explain.specs.Lost.{IsWalk}
use Rattle.scx_verify_explain.proofs.lost.last_of.Given as goal

abbrev pub invariant-loop : goal.invariant-loop
invariant-loop l = IsWalk l.listing l.fn.start l.sought l.walk
