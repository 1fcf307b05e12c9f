use Rattle.scx_explore_states.proofs.Putting.{bytes_more}
use Rattle.scx_explore_states.proofs.map_words.put_bytes.Goals as goal

pub loop-at-preserved : goal.loop-at-preserved
loop-at-preserved c =
    bytes_more c.args.bytes.now c.loop-at.at _ _ _ _ _ (c.put.ensures c.if-not-put.false) c.loop-at.invariant c.word_of.ensures c.eight_at.ensures
