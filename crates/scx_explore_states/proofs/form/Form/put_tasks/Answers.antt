use Rattle.scx_explore_states.proofs.Putting.{behind}
use Rattle.scx_explore_states.proofs.form.Form.put_tasks.Goals as goal

pub returns : goal.returns
returns c is = behind _ _ _ _ _ (c.put_rows.ensures is) (c.put_spots.ensures c.if-not-put_spots.false)
