use Rattle.std.proofs.Common.{rules, refl}
use Rattle.scx_sched_world.proofs.Keeping.{same_kept}
use Rattle.scx_sched_world.proofs.world.World.duplicate.Goals as goal

pub invariant_of-result : goal.invariant_of-result
invariant_of-result c =
    same_kept c.self.inside _ c.self.invariant
    refl
    (search rules)
    (search rules)
    refl
    (search rules)
    (search rules)
    (search rules)
    (search rules)
    (search rules)
    (search rules)
    refl
    refl
    refl
    refl
    refl
    refl
