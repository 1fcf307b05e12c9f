use Rattle.std.proofs.Common.{ℕ, List, arith, slice_index_or}
use Rattle.scx_isa_semantics.specs.Directories.{Array}
use Rattle.scx_maps.specs.Words.{part_words}
use Rattle.scx_explore_states.proofs.Pairs.{all_pairs, pairs_more}
use Rattle.scx_explore_states.proofs.map_words.put_pairs_of_part.Goals as goal

pub loop-word-preserved : goal.loop-word-preserved
loop-word-preserved c =
    pairs_more c.args.place (part_words (slice_index_or c.args.maps.now.directories c.args.part Array)) c.loop-word.word _ _ _ _ (omega (arith, c.loop-word-test.true, c.part_words-word-end.ensures)) (c.put_pair.ensures c.if-not-put_pair.false) c.loop-word.invariant c.part_word.ensures

pub returns : goal.returns
returns c is =
    let words : List ℕ = part_words (slice_index_or c.args.maps.now.directories c.args.part Array) in
    all_pairs c.args.place words _ _ c.loop-word.word (omega (arith, c.loop-word-test.false, c.part_words-word-end.ensures)) c.loop-word.invariant
