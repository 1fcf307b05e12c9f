use Rattle.std.proofs.Common.{◌≡◌, ℕ, ◌<◌, false, length, refl, sym, subst}
use Rattle.scx_sched_world.specs.World.{WorldState}
use Rattle.scx_sched_world.specs.Kept.{state_of}
use Rattle.scx_sched_world.specs.Pending.{is_pending}
use Rattle.scx_sched_world.proofs.Keeping.{queues_changed}
use Rattle.scx_sched_world.proofs.Settled.{settled_all}
use Rattle.scx_sched_world.proofs.world.World.settle_all.Goals as goal

pub invariant_of-self : goal.invariant_of-self
invariant_of-self c =
    let w = c.self.inside in
    let is = c.self.invariant in
    queues_changed w w.queues w.parked_throttled 0 is refl is.places is.parked
    (settled_all w.by_linux (state_of w) (subst (λ (v : WorldState). (k : ℕ) → k < length v.cpus → is_pending v k ≡ false) (sym c.self.view_is) c.requires))
