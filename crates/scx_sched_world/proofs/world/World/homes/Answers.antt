use Rattle.std.proofs.Common.{sym, ◌∙◌}
use Rattle.scx_sched_world.proofs.Picks.{bound_home, any_home}
use Rattle.scx_sched_world.proofs.world.World.homes.Goals as goal

pub returns-then-binds : goal.returns-then-binds
returns-then-binds c k l = bound_home c.args.self.now c.args.task k _ (sym c.binds.ensures ∙ c.if-binds.true) (c.mask.ensures k)

pub returns-else-binds : goal.returns-else-binds
returns-else-binds c k l = any_home c.args.self.now c.args.task k (sym c.binds.ensures ∙ c.if-binds.false) l
