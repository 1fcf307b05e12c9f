use Rattle.scx_explore_states.proofs.Putting.{limited_parts}
use Rattle.scx_explore_states.proofs.written.put_limited.Goals as goal

pub returns : goal.returns
returns c is =
    limited_parts c.args.sim.now.state.world.tree c.args.sim.now.state.world.clock c.groups-groups.result _ _ _ _ _ c.clock-clock.ensures c.groups-groups.ensures (c.put.ensures c.if-not-put.false) (c.put_used.ensures is)
