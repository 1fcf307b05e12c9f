use Rattle.scx_explore_states.proofs.Pairs.{all_zero, empty_zero}
use Rattle.scx_explore_states.proofs.map_words.is_zero.Goals as goal

pub returns-then-is_empty : goal.returns-then-is_empty
returns-then-is_empty c is = empty_zero c.args.bytes.now c.is_empty.result c.if-is_empty.true c.is_empty.ensures

pub returns-then-bytes-eq0 : goal.returns-then-bytes-eq0
returns-then-bytes-eq0 c is = all_zero c.args.bytes.now c.if-bytes-eq0.true (c.is_same.ensures is)
