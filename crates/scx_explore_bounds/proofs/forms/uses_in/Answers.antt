use Rattle.scx_isa_semantics.specs.Callbacks.{callbacks}
use Rattle.scx_explore_bounds.specs.Forms.{no_uses}
use Rattle.scx_explore_bounds.proofs.EachProgram.{none_do, one_more}
use Rattle.scx_explore_bounds.proofs.forms.uses_in.Goals as goal

pub loop-callback-init : goal.loop-callback-init
loop-callback-init c = none_do c.args.rules c.args.defs.now c.args.programs.now no_uses

pub loop-callback-preserved : goal.loop-callback-preserved
loop-callback-preserved c =
    let one = rw c.get.ensures at c.in_ok-uses.ensures in
    one_more c.args.rules c.args.defs.now c.args.programs.now callbacks c.loop-callback.callback-index _ no_uses c.loop-callback.uses _ c.loop-callback-test.true c.loop-callback.invariant one
