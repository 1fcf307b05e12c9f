use Rattle.std.proofs.Common.{◌<◌, length, arith}
use Rattle.scx_sched_world.proofs.Places.{local_stands}
use Rattle.scx_sched_world.proofs.world.World.has_local.Goals as goal

pub front_at-requires : goal.front_at-requires
front_at-requires c =
    let within : c.args.cpu < length c.self.inside.cpus.items = omega arith in
    rw c.from-queue.ensures (local_stands c.self.inside.queues.state _ c.args.cpu c.self.invariant.places within)
