use Rattle.std.proofs.Common.{◌∙◌}
use Rattle.scxsim_statistics.proofs.Bound.{some_open, none_open}
use Rattle.scxsim_statistics.proofs.losses.waits.Goals as goal

pub returns-in-Some : goal.returns-in-Some
returns-in-Some c = c.is_wait.ensures ∙ some_open c.args.pauses.now c.args.task c.in-Some.pause c.in-Some.ensures

pub returns-in-None : goal.returns-in-None
returns-in-None c = none_open c.args.pauses.now c.args.task c.in-None.ensures
