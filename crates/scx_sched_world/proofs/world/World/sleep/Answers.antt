use Rattle.std.proofs.Common.{◌≡◌, true, false, length, ap, subst, sym}
use Rattle.scx_weights.specs.Hierarchy.{Hierarchy}
use Rattle.scx_sched_world.specs.Kept.{AreThrottled}
use Rattle.scx_sched_world.proofs.Keeping.{tree_changed}
use Rattle.scx_sched_world.proofs.Parked.{known_active}
use Rattle.scx_sched_world.proofs.world.World.sleep.Goals as goal

pub invariant_of-self : goal.invariant_of-self
invariant_of-self c =
    let w = c.self-then-task-len.inside in
    let is = c.self-then-task-len.invariant in
    tree_changed w c.deactivate.new.self w.parked_throttled is (ap (λ (t : Hierarchy). length t.homes) c.deactivate.ensures)
    (subst (λ (t : Hierarchy). w.parked_throttled ≡ true → AreThrottled w.queues.state t) (sym c.deactivate.ensures)
    (known_active w.parked_throttled w.queues.state w.tree c.from.result false is.parked))
