use Rattle.std.proofs.Common.{◌+◌, arith}
use Rattle.scx_explore_states.proofs.Pairs.{no_pair, one_pair}
use Rattle.scx_explore_states.proofs.map_words.put_pair.Goals as goal

pub returns-then-word-eq0 : goal.returns-then-word-eq0
returns-then-word-eq0 c is = no_pair _ _ _ c.if-word-eq0.true

pub returns : goal.returns
returns c is =
    one_pair _ _ _ (c.args.place + c.args.number) _ c.args.word c.if-word-eq0.false (omega (arith, c.saturating_add-at.ensures, c.if-at.false)) (c.put.ensures c.if-not-put.false) (c.put-2.ensures is)
