use Rattle.scx_sched_world.proofs.Places.{parked_stands}
use Rattle.scx_sched_world.proofs.world.World.first_parked.Goals as goal

pub front_at-requires : goal.front_at-requires
front_at-requires c = parked_stands c.self.inside.queues.state _ c.self.invariant.places
