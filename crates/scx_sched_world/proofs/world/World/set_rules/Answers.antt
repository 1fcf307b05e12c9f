use Rattle.scx_sched_world.proofs.Keeping.{rules_changed}
use Rattle.scx_sched_world.proofs.world.World.set_rules.Goals as goal

pub invariant_of-self : goal.invariant_of-self
invariant_of-self c = rules_changed c.self.inside c.args.rules c.goes_by_linux-linux.result c.self.invariant c.goes_by_linux-linux.ensures
