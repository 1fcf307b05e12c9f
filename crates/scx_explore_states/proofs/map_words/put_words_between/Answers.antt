use Rattle.std.proofs.Common.{◌≡◌, ℕ, ◌++◌, ap, ◌∙◌, arith}
use Rattle.scx_explore_states.specs.NotZero.{pairs_from}
use Rattle.scx_explore_states.specs.Written.{byte_words}
use Rattle.scx_explore_states.proofs.Pairs.{eight_more}
use Rattle.scx_explore_states.proofs.map_words.put_words_between.Goals as goal

pub loop-at-preserved : goal.loop-at-preserved
loop-at-preserved c before old =
    eight_more c.args.bytes.now c.loop-at.at _ _ before _ _ (c.put_pair.ensures c.if-not-put_pair.false) c.word_of.ensures c.eight_at.ensures (c.loop-at.invariant before old)

pub returns : goal.returns
returns c is before old =
    let end : c.loop-at.at ≡ c.args.to = omega (arith, c.loop-at-test.false, c.loop-at.auto.at-end c.requires.order) in
    c.loop-at.invariant before old
    ∙ ap (λ (k : ℕ). before ++ pairs_from 0 (byte_words c.args.bytes.now k)) end
