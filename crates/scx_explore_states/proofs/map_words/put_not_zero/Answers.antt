use Rattle.std.proofs.Common.{arith}
use Rattle.scx_explore_states.specs.Written.{map_words}
use Rattle.scx_explore_states.proofs.Pairs.{not_zero_put}
use Rattle.scx_explore_states.proofs.map_words.put_not_zero.Goals as goal

pub returns : goal.returns
returns c is =
    not_zero_put c.args.most c.in-Some.count c.len-start.result (map_words c.args.maps.now) _ _ _ _ (c.in-Some.ensures {u = tt}) (c.put.ensures c.if-not-put.false) (omega (arith, c.len-start.ensures)) (c.put_pairs.ensures c.if-not-put_pairs.false) (rw c.from.ensures at (c.fill.ensures is))
