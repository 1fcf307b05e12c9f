use Rattle.std.proofs.Common.{◌<◌, length, arith}
use Rattle.scx_sched_world.proofs.Places.{local_stands}
use Rattle.scx_sched_world.proofs.world.World.pop_local.Goals as goal

pub pop_at-requires : goal.pop_at-requires
pop_at-requires c =
    let within : c.args.cpu < length c.self.inside.cpus.items = omega arith in
    rw (c.from-queue.ensures, ← c.self.view_is) (local_stands c.self.inside.queues.state _ c.args.cpu c.self.invariant.places within)
