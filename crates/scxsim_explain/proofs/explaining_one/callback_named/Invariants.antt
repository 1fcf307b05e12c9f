use Rattle.std.proofs.Common.{◌≡◌, drop}
use Rattle.scx_isa_semantics.specs.Callbacks.{callbacks, callback_name}
use Rattle.scx_asm_text.specs.Names.{first_with_name}
use Rattle.scxsim_explain.specs.One.{callback_named}
use Rattle.scxsim_explain.proofs.explaining_one.callback_named.Given as goal

abbrev pub invariant-loop-callback : goal.invariant-loop-callback
invariant-loop-callback l = callback_named l.name ≡ first_with_name callback_name (drop l.callback-index callbacks) l.name
