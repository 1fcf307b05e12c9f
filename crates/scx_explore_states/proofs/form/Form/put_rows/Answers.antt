use Rattle.scx_explore_states.proofs.Putting.{rows_more}
use Rattle.scx_explore_states.proofs.form.Form.put_rows.Goals as goal

pub loop-place-preserved : goal.loop-place-preserved
loop-place-preserved c =
    rows_more c.args.self c.args.rows.now c.args.order.now c.loop-place.place _ _ _ _ (c.put_row.ensures c.if-not-put_row.false) c.loop-place.invariant c.row_in.ensures
