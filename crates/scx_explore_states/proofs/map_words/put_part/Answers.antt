use Rattle.std.proofs.Common.{ℕ, List, arith, slice_index_or}
use Rattle.scx_isa_semantics.specs.Directories.{Array}
use Rattle.scx_maps.specs.Words.{part_words}
use Rattle.scx_explore_states.proofs.Putting.{part_all, part_more}
use Rattle.scx_explore_states.proofs.map_words.put_part.Goals as goal

pub loop-number-preserved : goal.loop-number-preserved
loop-number-preserved c =
    part_more (part_words (slice_index_or c.args.maps.now.directories c.args.part Array)) c.loop-number.number _ _ _ _ (omega (arith, c.loop-number-test.true, c.part_words-number-end.ensures)) (c.put.ensures c.if-not-put.false) c.loop-number.invariant c.part_word.ensures

pub returns : goal.returns
returns c is =
    let words : List ℕ = part_words (slice_index_or c.args.maps.now.directories c.args.part Array) in
    part_all words _ _ c.loop-number.number (omega (arith, c.loop-number-test.false, c.part_words-number-end.ensures)) c.loop-number.invariant
