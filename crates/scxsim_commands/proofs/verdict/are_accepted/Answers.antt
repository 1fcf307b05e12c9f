use Rattle.std.proofs.Common.{sym, ap, ◌∙◌}
use Rattle.scxsim_commands.specs.Verdicts.{is_accepted}
use Rattle.scxsim_commands.proofs.Accepting.{goes_on}
use Rattle.scxsim_commands.proofs.verdict.are_accepted.Goals as goal

pub loop-callback-preserved : goal.loop-callback-preserved
loop-callback-preserved c =
    let accepted = ap is_accepted (sym c.get.ensures) ∙ sym c.is_accepted.ensures ∙ c.if-not-is_accepted.false in
    goes_on c.args.verdicts.now c.loop-callback.callback-index _ c.loop-callback-test.true c.loop-callback.invariant accepted
