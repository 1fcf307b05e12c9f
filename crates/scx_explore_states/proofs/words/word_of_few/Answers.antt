use Rattle.std.proofs.Common.{arith}
use Rattle.scx_explore_states.proofs.Putting.{word_all, word_more}
use Rattle.scx_explore_states.proofs.words.word_of_few.Goals as goal

pub loop-at-preserved : goal.loop-at-preserved
loop-at-preserved c =
    word_more c.args.bytes.now c.loop-at.at c.loop-at.word c.with_byte-word.result _ (omega (arith, c.loop-at-test.true)) c.with_byte-word.ensures c.loop-at.invariant

pub returns : goal.returns
returns c =
    word_all c.args.bytes.now c.loop-at.at c.loop-at.word (omega (arith, c.loop-at-test.false)) c.loop-at.invariant
