use Rattle.scx_explore_states.proofs.Putting.{spots_more}
use Rattle.scx_explore_states.proofs.written.put_spots.Goals as goal

pub loop-pair-preserved : goal.loop-pair-preserved
loop-pair-preserved c =
    spots_more c.args.rows.now c.args.order.now c.loop-pair.pair _ _ _ _ _ _ (c.put.ensures c.if-not-put.false) c.loop-pair.invariant c.spots_of.ensures c.row_in-first.ensures c.row_in-second.ensures
