use Rattle.scx_isa_semantics.proofs.EachMade.{AreMade, AreThere}
use Rattle.scx_isa_semantics.proofs.per_callback.PerCallback+Option+T.make_each.Given as goal

-- something is made of the values before, and the others are still there
abbrev pub invariant-loop-callback : goal.invariant-loop-callback
invariant-loop-callback g l = AreMade g.F.Fn l.f l.fn.self l.callback-index l.all_made × AreThere g.F.Fn l.f l.fn.self l.callback-index l.self
