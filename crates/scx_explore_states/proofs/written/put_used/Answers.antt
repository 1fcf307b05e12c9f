use Rattle.scx_explore_states.proofs.Putting.{used_more}
use Rattle.scx_explore_states.proofs.written.put_used.Goals as goal

pub loop-group-preserved : goal.loop-group-preserved
loop-group-preserved c =
    used_more c.args.sim.now.state.world.tree c.loop-group.group _ _ _ _ (c.put.ensures c.if-not-put.false) c.loop-group.invariant c.usage.ensures
