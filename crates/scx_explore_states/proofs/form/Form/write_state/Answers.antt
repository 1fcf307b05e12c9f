use Rattle.scx_explore_states.proofs.Putting.{state_written}
use Rattle.scx_explore_states.proofs.form.Form.write_state.Goals as goal

pub returns : goal.returns
returns c is =
    state_written c.args.self c.args.numbers.now c.args.sim.now c.rows_by-rows.result _ _ _ c.rows_by-rows.ensures (c.write_words.ensures c.if-not-write_words.false) (c.is_fair.ensures c.if-not-is_fair.false) (c.are_known.ensures is)
