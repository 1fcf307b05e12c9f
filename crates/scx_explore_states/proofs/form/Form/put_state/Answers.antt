use Rattle.scx_explore_states.proofs.Putting.{state_parts}
use Rattle.scx_explore_states.proofs.form.Form.put_state.Goals as goal

pub returns : goal.returns
returns c is =
    state_parts c.args.self c.args.rows.now c.args.order.now c.args.sim.now c.kept_tasks-count.result _ _ _ _ _ _ c.kept_tasks-count.ensures.tasks (c.put_tasks.ensures c.if-not-put_tasks.false) (c.put_times.ensures c.if-not-put_times.false) (c.put_usages.ensures c.if-not-put_usages.false) (c.put_rules.ensures c.if-not-put_rules.false) (rw c.maps.ensures at (c.put_maps.ensures is))
