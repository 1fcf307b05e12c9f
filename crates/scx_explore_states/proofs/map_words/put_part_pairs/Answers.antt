use Rattle.std.proofs.Common.{arith}
use Rattle.scx_explore_states.proofs.Pairs.{all_parts, count_more, part_pairs_more}
use Rattle.scx_explore_states.proofs.map_words.put_part_pairs.Goals as goal

pub loop-part-preserved : goal.loop-part-preserved
loop-part-preserved c = record {
  words = part_pairs_more c.args.maps.now.directories c.args.first c.loop-part.place c.loop-part.part _ _ _ (omega (arith, c.loop-part-test.true, c.parts-part-end.ensures)) c.loop-part.invariant.place (c.put_pairs_of_part.ensures c.if-not-put_pairs_of_part.false) c.loop-part.invariant.words;
  place = count_more c.args.maps.now.directories c.loop-part.part c.args.first c.loop-part.place c.in-Some.next c.part_words.result (omega (arith, c.loop-part-test.true, c.parts-part-end.ensures)) c.loop-part.invariant.place c.part_words.ensures (c.in-Some.ensures {u = tt}).1;
}

pub returns : goal.returns
returns c is =
    all_parts c.args.maps.now.directories c.args.first c.loop-part.part _ _ (omega (arith, c.loop-part-test.false, c.parts-part-end.ensures)) c.loop-part.invariant.words
