use Rattle.scxsim_explain.proofs.Objects.{appends_object}
use Rattle.scxsim_explain.proofs.verdict_objects.objects_of.Goals as goal

pub loop-callback-preserved : goal.loop-callback-preserved
loop-callback-preserved c =
    appends_object c.args.verdicts.now c.loop-callback.callback-index _ c.loop-callback.lines.items _ _ c.loop-callback-test.true c.get.ensures c.in_ok-lines.ensures c.loop-callback.invariant
