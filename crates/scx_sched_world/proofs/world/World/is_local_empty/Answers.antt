use Rattle.std.proofs.Common.{not, ◌==◌, ap, ◌∙◌}
use Rattle.scx_sched_world.specs.Tasks.{local_len}
use Rattle.scx_sched_world.proofs.Settled.{twice_not}
use Rattle.scx_sched_world.proofs.world.World.is_local_empty.Goals as goal

pub returns : goal.returns
returns c = ap (λ b. not b) c.has_local.ensures ∙ twice_not (local_len c.args.self.now c.args.cpu == 0)
