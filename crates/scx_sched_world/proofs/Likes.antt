-- Worlds that fit, as their fields have it.
use Rattle.std.proofs.Common.{◌≡◌, sym, subst}
use Rattle.scx_sched_world.specs.declared.world.World.TheInside.{Inside}
use Rattle.scx_sched_world.specs.World.{WorldState, IsLike}
use Rattle.scx_sched_world.specs.Kept.{state_of}

-- what two worlds are alike in their fields are
pub fields_alike : (i j : Inside) (v w : WorldState) → state_of i ≡ v → state_of j ≡ w → IsLike v w → IsLike (state_of i) (state_of j)
fields_alike i j v w own other like =
    subst (λ x. IsLike x (state_of j)) (sym own) (subst (λ y. IsLike v y) (sym other) like)
