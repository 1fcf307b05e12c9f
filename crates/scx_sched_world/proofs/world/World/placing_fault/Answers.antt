use Rattle.std.proofs.Common.{refl, sym, ◌∙◌}
use Rattle.scx_sched_world.specs.Helpers.{cpu_meant}
use Rattle.scx_sched_world.proofs.Picks.{may_go_unbound}
use Rattle.scx_sched_world.proofs.world.World.placing_fault.Goals as goal

pub returns-then-not-binds : goal.returns-then-not-binds
returns-then-not-binds c = rw (may_go_unbound c.args.self.now c.args.task (cpu_meant c.args.self.now c.args.queue) (sym c.binds.ensures ∙ c.if-not-binds.true)) refl
