use Rattle.std.proofs.Common.{arith}
use Rattle.scx_explore_states.proofs.Pairs.{count_all, count_more}
use Rattle.scx_explore_states.proofs.map_words.count_of.Goals as goal

pub loop-part-preserved : goal.loop-part-preserved
loop-part-preserved c =
    count_more c.args.maps.now.directories c.loop-part.part _ c.loop-part.count c.in_ok-count.count c.part_words.result (omega (arith, c.loop-part-test.true, c.parts-part-end.ensures)) c.loop-part.invariant c.part_words.ensures (c.in_ok-count.ensures {u = tt}).1

pub returns : goal.returns
returns c =
    count_all c.args.maps.now c.loop-part.part c.loop-part.count (omega (arith, c.loop-part-test.false, c.parts-part-end.ensures)) c.loop-part.invariant
