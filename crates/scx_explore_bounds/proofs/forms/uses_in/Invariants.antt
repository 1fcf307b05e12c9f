use Rattle.std.specs.Prelude.{take}
use Rattle.scx_isa_semantics.specs.Callbacks.{callbacks}
use Rattle.scx_explore_bounds.specs.Forms.{DoAll, no_uses}
use Rattle.scx_explore_bounds.proofs.forms.uses_in.Given as goal

-- what the programs of the callbacks so far do
abbrev pub invariant-loop-callback : goal.invariant-loop-callback
invariant-loop-callback l = DoAll l.rules l.defs l.programs (take l.callback-index callbacks) no_uses l.uses
