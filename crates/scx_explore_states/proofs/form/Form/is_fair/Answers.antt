use Rattle.scx_explore_states.proofs.Placed.{own_fair}
use Rattle.scx_explore_states.proofs.form.Form.is_fair.Goals as goal

pub returns-then-is_same : goal.returns-then-is_same
returns-then-is_same c is =
    own_fair c.args.self c.args.sim.now.state.world c.args.order.now (c.is_same.ensures c.if-is_same.true)
