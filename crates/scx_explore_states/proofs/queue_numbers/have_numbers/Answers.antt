use Rattle.std.proofs.Common.{ℕ, ◌<◌, List, length, All, subst, arith}
use Rattle.std.proofs.lemmas.List.{take_all}
use Rattle.std.proofs.lemmas.List.Elements.{All-more}
use Rattle.scx_explore_states.specs.Words.{number_in}
use Rattle.scx_explore_states.proofs.queue_numbers.have_numbers.Goals as goal

pub loop-at-preserved : goal.loop-at-preserved
loop-at-preserved c =
    All-more (λ (q : ℕ). number_in c.args.ids.now q < length c.args.ids.now) c.args.others.now c.loop-at.at _ (omega (arith, c.loop-at-test.true)) c.loop-at.invariant (c.is_among.ensures c.if-not-is_among.false)

pub returns : goal.returns
returns c is =
    subst (λ (qs : List ℕ). All (λ (q : ℕ). number_in c.args.ids.now q < length c.args.ids.now) qs)
    (take_all c.loop-at.at c.args.others.now (omega (arith, c.loop-at-test.false))) c.loop-at.invariant
