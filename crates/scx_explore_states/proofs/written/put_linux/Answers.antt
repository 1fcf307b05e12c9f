use Rattle.scx_explore_states.proofs.Putting.{rules_parts}
use Rattle.scx_explore_states.proofs.written.put_linux.Goals as goal

pub returns : goal.returns
returns c is =
    rules_parts c.args.sim.now.state.world c.marks-marks.result c.timers-timers.result _ _ _ (rw c.world-world.ensures at c.marks-marks.ensures) (rw c.world-world.ensures at c.timers-timers.ensures.timers) (c.put_marks.ensures c.if-not-put_marks.false) (c.put_timers.ensures is)
