use Rattle.std.proofs.Common.{◌≡◌, true, false, get_or, sym, ◌∙◌}
use Rattle.std.specs.Str.{bytes_eq}
use Rattle.scx_isa_semantics.specs.declared.callbacks.Callback.TheVariants as callback
use Rattle.scx_isa_semantics.specs.Callbacks.{callbacks, callback_name}
use Rattle.scx_asm_text.proofs.Names.{named_here, named_later}
use Rattle.scxsim_explain.proofs.explaining_one.callback_named.Goals as goal

pub returns-then-eq : goal.returns-then-eq
returns-then-eq c =
    let found : bytes_eq c.args.name.now (callback_name (get_or callbacks c.loop-callback.callback-index callback.Plain)) ≡ true = cc in
    sym (c.loop-callback.invariant ∙ named_here callback_name callbacks c.loop-callback.callback-index callback.Plain c.args.name.now c.loop-callback-test.true found)

pub loop-callback-preserved : goal.loop-callback-preserved
loop-callback-preserved c =
    let missed : bytes_eq c.args.name.now (callback_name (get_or callbacks c.loop-callback.callback-index callback.Plain)) ≡ false = cc in
    c.loop-callback.invariant ∙ named_later callback_name callbacks c.loop-callback.callback-index callback.Plain c.args.name.now c.loop-callback-test.true missed
