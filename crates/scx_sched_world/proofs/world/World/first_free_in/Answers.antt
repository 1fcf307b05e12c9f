use Rattle.std.proofs.Common.{arith}
use Rattle.scx_sched_world.specs.Helpers.{is_free_in}
use Rattle.scx_sched_world.proofs.Picks.{free_in}
use Rattle.scx_sched_world.proofs.world.World.first_free_in.Goals as goal

pub returns : goal.returns
returns c = c.lowest_of.ensures.lowest (is_free_in c.args.mask c.args.self.now) (free_in c.args.mask c.taken.result c.args.self.now (omega arith) c.taken.ensures)
