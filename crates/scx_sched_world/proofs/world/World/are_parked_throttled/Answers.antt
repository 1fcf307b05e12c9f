use Rattle.std.proofs.Common.{subst}
use Rattle.scx_sched_world.specs.Kept.{state_of, NobodyIsFree}
use Rattle.scx_sched_world.specs.World.{WorldState}
use Rattle.scx_sched_world.proofs.Parked.{none_free}
use Rattle.scx_sched_world.proofs.world.World.are_parked_throttled.Goals as goal

pub returns-then-self-clause-throttled : goal.returns-then-self-clause-throttled
returns-then-self-clause-throttled c known =
    subst (λ (w : WorldState). NobodyIsFree w) c.self.view_is (none_free (state_of c.self.inside) c.self.invariant.queued (c.self.invariant.parked c.if-self.true))
