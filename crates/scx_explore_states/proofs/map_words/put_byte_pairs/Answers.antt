use Rattle.std.proofs.Common.{◌+◌, ◌/◌, length}
use Rattle.scx_explore_states.proofs.Pairs.{last_block, next_block, no_block}
use Rattle.scx_explore_states.proofs.map_words.put_byte_pairs.Goals as goal

pub loop-block-init : goal.loop-block-init
loop-block-init c = no_block c.args.bytes.now ((length c.args.bytes.now + 7) / 8) c.args.words.now.items

pub loop-block-preserved : goal.loop-block-preserved
loop-block-preserved c =
    next_block c.args.bytes.now ((length c.args.bytes.now + 7) / 8) c.loop-block.block c.args.words.now.items _ _ c.loop-block-test.true c.loop-block.invariant (c.put_block.ensures c.if-not-put_block.false c.args.words.now.items)

pub returns : goal.returns
returns c is =
    last_block c.args.bytes.now ((length c.args.bytes.now + 7) / 8) c.loop-block.block _ _ c.loop-block-test.false c.loop-block.invariant
