use Rattle.scx_explore_states.proofs.Putting.{timers_more}
use Rattle.scx_explore_states.proofs.written.put_timers.Goals as goal

pub loop-timer-preserved : goal.loop-timer-preserved
loop-timer-preserved c =
    timers_more c.args.sim.now.state.world c.loop-timer.timer _ _ _ (c.put_timer.ensures c.if-not-put_timer.false) c.loop-timer.invariant
