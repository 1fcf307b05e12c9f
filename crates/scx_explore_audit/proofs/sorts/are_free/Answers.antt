use Rattle.std.proofs.Common.{arith}
use Rattle.std.proofs.lemmas.List.Elements.{All-more}
use Rattle.scx_explore_audit.specs.Claims.{IsFree}
use Rattle.scx_explore_audit.proofs.Settled.{all_taken}
use Rattle.scx_explore_audit.proofs.sorts.are_free.Goals as goal

pub loop-at-preserved : goal.loop-at-preserved
loop-at-preserved c =
    All-more (λ x. IsFree x c.args.sim.now c.args.event) c.args.sorts.now c.loop-at.at _ (omega (arith, c.loop-at-test.true)) c.loop-at.invariant (c.is_free.ensures c.if-not-is_free.false)

pub returns : goal.returns
returns c is =
    all_taken (λ x. IsFree x c.args.sim.now c.args.event) c.args.sorts.now c.loop-at.at (omega (arith, c.loop-at-test.false)) c.loop-at.invariant
