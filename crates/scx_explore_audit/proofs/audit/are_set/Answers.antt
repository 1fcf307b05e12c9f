use Rattle.std.proofs.Common.{◌≡◌, true, arith}
use Rattle.std.proofs.lemmas.List.Elements.{All-more}
use Rattle.scx_explore_audit.proofs.Settled.{all_taken}
use Rattle.scx_explore_audit.proofs.audit.are_set.Goals as goal

pub loop-at-preserved : goal.loop-at-preserved
loop-at-preserved c =
    All-more (λ mark. mark ≡ true) c.args.marks.now c.loop-at.at _ (omega (arith, c.loop-at-test.true)) c.loop-at.invariant (c.is_set.ensures c.if-not-is_set.false)

pub returns : goal.returns
returns c is =
    all_taken (λ mark. mark ≡ true) c.args.marks.now c.loop-at.at (omega (arith, c.loop-at-test.false)) c.loop-at.invariant
