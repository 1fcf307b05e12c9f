use Rattle.std.proofs.Common.{arith}
use Rattle.scx_explore_states.proofs.Putting.{parts_more}
use Rattle.scx_explore_states.proofs.map_words.put_parts.Goals as goal

pub loop-part-preserved : goal.loop-part-preserved
loop-part-preserved c =
    parts_more c.args.maps.now.directories c.loop-part.part _ _ _ (omega (arith, c.loop-part-test.true, c.requires)) (c.put_part.ensures c.if-not-put_part.false) c.loop-part.invariant
