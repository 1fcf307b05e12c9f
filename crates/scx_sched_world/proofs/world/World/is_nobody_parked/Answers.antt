use Rattle.std.proofs.Common.{not, ap, ◌∙◌, subst}
use Rattle.scx_sched_world.specs.Kept.{state_of, NobodyIsFree}
use Rattle.scx_sched_world.specs.World.{WorldState}
use Rattle.scx_sched_world.proofs.Parked.{nobody_parked}
use Rattle.scx_sched_world.proofs.Places.{parked_stands}
use Rattle.scx_sched_world.proofs.world.World.is_nobody_parked.Goals as goal

pub front_at-requires : goal.front_at-requires
front_at-requires c = parked_stands c.self.inside.queues.state _ c.self.invariant.places

pub returns : goal.returns
returns c none =
    subst (λ (w : WorldState). NobodyIsFree w) c.self.view_is
    (nobody_parked (state_of c.self.inside) c.front_at.result c.front_at.ensures.empty (c.is_none.ensures ∙ ap (λ b. not b) none))
