use Rattle.std.proofs.Common.{◌<◌, ℕ, true, get_or}
use Rattle.scx_isa_semantics.specs.declared.callbacks.Callback.{Callback}
use Rattle.scx_isa_semantics.specs.Callbacks.{callbacks, at, Answer}
use Rattle.scx_isa_semantics.proofs.per_callback.PerCallback+Option+T.all.Given as goal

-- those before passed
abbrev pub invariant-loop-callback : goal.invariant-loop-callback
invariant-loop-callback g l = (k : ℕ) (d : Callback) → k < l.callback-index → Answer g.F.Fn l.test (get_or callbacks k d) (at l.self (get_or callbacks k d)) true
