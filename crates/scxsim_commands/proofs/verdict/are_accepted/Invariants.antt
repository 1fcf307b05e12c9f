use Rattle.std.proofs.Common.{◌≡◌, drop}
use Rattle.scx_isa_semantics.specs.Callbacks.{callbacks}
use Rattle.scxsim_commands.specs.Verdicts.{accepted_each, are_accepted}
use Rattle.scxsim_commands.proofs.verdict.are_accepted.Given as goal

-- no callback before is refused
abbrev pub invariant-loop-callback : goal.invariant-loop-callback
invariant-loop-callback l = accepted_each l.verdicts (drop l.callback-index callbacks) ≡ are_accepted l.verdicts
