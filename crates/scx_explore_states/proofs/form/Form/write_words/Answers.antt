use Rattle.scx_explore_states.proofs.Putting.{words_written}
use Rattle.scx_explore_states.proofs.form.Form.write_words.Goals as goal

pub returns : goal.returns
returns c is =
    words_written c.args.self c.args.rows.now c.args.order.now c.args.sim.now c.args.first _ _ _ c.clear.ensures.items (c.put.ensures c.if-not-put.false) (c.put_state.ensures is)
