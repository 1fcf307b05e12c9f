use Rattle.scx_explore_audit.proofs.Settled.{written_as}
use Rattle.scx_explore_audit.proofs.states.is_written.Goals as goal

pub returns : goal.returns
returns c is =
    written_as c.args.table.form c.args.table.numbers.now c.args.sim.now _ _ _ (c.write_state.ensures c.if-not-write_state.false) c.as_slice.ensures.value (c.is_same.ensures is)
