use Rattle.scxsim_explore.proofs.Told.{none_so_far, more_so_far}
use Rattle.scxsim_explore.proofs.ending.write_most.Goals as goal

pub loop-callback-init : goal.loop-callback-init
loop-callback-init g c =
    let one = c.in_ok-write_one.ensures in
    more_so_far c.args.mode c.args.about.now c.args.begun.now.machines _ _ _ _ _ _ _ _ _ _ (none_so_far c.args.mode c.args.about.now c.args.begun.now.machines _ _ _ c.requires) c.write_one.ensures.same one.alike one.told one.failures

pub loop-callback-preserved : goal.loop-callback-preserved
loop-callback-preserved g c =
    let one = c.in_ok-write_one-2.ensures in
    more_so_far c.args.mode c.args.about.now c.args.begun.now.machines _ _ _ _ _ _ _ _ _ _ c.loop-callback.invariant c.write_one-in-loop-callback.ensures.same one.alike one.told one.failures
