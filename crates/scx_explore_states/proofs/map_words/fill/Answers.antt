use Rattle.std.proofs.Common.{◌≡◌, ℕ, ◌-◌, ◌++◌, length, replicate, ap, ◌∙◌, arith}
use Rattle.scx_explore_states.proofs.Pairs.{zeros_more}
use Rattle.scx_explore_states.proofs.map_words.fill.Goals as goal

pub loop-preserved : goal.loop-preserved
loop-preserved c = zeros_more c.loop.counter _ _ _ (c.put.ensures c.if-not-put.false) c.loop.invariant

pub returns : goal.returns
returns c is =
    let all : c.loop.counter ≡ c.args.width - (length c.args.words.now.items - c.args.start) = omega (arith, c.loop-test.false, c.loop.auto.counter-end, c.len.ensures) in
    c.loop.invariant ∙ ap (λ (n : ℕ). c.args.words.now.items ++ replicate n 0) all
