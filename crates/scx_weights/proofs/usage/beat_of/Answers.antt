use Rattle.std.proofs.Common.{arith}
use Rattle.scx_weights.specs.Hierarchy.{period_at}
use Rattle.scx_weights.proofs.KnownLimits.{one_more, least_one}
use Rattle.scx_weights.proofs.usage.beat_of.Goals as goal

pub loop-group-preserved : goal.loop-group-preserved
loop-group-preserved c =
    one_more c.args.groups.now c.loop-group.beat c.common_divisor-beat.result c.loop-group.group c.loop-group.invariant c.common_divisor-beat.ensures.0 c.common_divisor-beat.ensures.1

pub returns-clause-divides : goal.returns-clause-divides
returns-clause-divides c g lt =
    rw (c.from.ensures, c.max.ensures) (least_one (period_at c.args.groups.now g) c.loop-group.beat (c.loop-group.invariant g (omega (arith, lt, c.loop-group-test.false))))
