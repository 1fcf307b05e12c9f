use Rattle.std.proofs.Common.{arith}
use Rattle.scx_sched_world.specs.World.{is_free_for}
use Rattle.scx_sched_world.proofs.Picks.{free_for}
use Rattle.scx_sched_world.proofs.world.World.first_free.Goals as goal

pub returns : goal.returns
returns c = c.lowest_of.ensures.lowest (is_free_for c.args.self.now c.args.task) (free_for c.homes.result c.taken.result c.args.self.now c.args.task (omega arith) c.homes.ensures c.taken.ensures)
