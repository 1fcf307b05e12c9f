use Rattle.std.proofs.Common.{arith}
use Rattle.scx_explore_findings.proofs.CommonBeginnings.{shares_more}
use Rattle.scx_explore_findings.proofs.path.common_beginning.Goals as goal

pub loop-at-preserved : goal.loop-at-preserved
loop-at-preserved c =
    shares_more c.args.events.now c.args.others.now c.loop-at.at _ (omega (arith, c.loop-at-test.true)) (c.stands_at.ensures.there c.if-not-stands_at.false) (c.stands_at.ensures.same c.if-not-stands_at.false) c.loop-at.invariant
