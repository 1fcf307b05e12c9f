use Rattle.scx_verify_explain.proofs.Tracks.{only_more}
use Rattle.scx_verify_explain.proofs.lost.comes_only.Goals as goal

pub loop-other-preserved : goal.loop-other-preserved
loop-other-preserved c =
    only_more c.args.listing.now c.args.from c.loop-other.other c.args.slot c.loop-other.invariant
    (c.comes_otherwise.ensures c.if-comes_otherwise.false)
