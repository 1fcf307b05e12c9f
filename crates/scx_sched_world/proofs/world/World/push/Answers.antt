use Rattle.std.proofs.Common.{inl, inr}
use Rattle.scx_sched_world.proofs.Keeping.{push_keeps_both}
use Rattle.scx_sched_world.proofs.Parked.{known_pushed}
use Rattle.scx_sched_world.proofs.world.World.push.Goals.{then-queue-eq-PARKED, else-queue-eq-PARKED}
use Rattle.scx_sched_world.proofs.world.World.push.Goals as goal

pub invariant_of-self : goal.invariant_of-self
invariant_of-self c =
    let w = c.self.inside in
    let now = c.if-queue-eq-PARKED.self-inside in
    elim c.if-queue-eq-PARKED.branch [
      | then-queue-eq-PARKED b ↦ push_keeps_both w now c.push.new.queues c.unsettle_at.new.bits c.args.queue c.from.result c.args.rank c.self.invariant
          (inl b.self-inside-is) c.unsettle_at.ensures c.push.ensures.state c.push.ensures.tasks
      | else-queue-eq-PARKED b ↦ push_keeps_both w now c.push.new.queues c.unsettle_at.new.bits c.args.queue c.from.result c.args.rank c.self.invariant
          (inr (b.self-inside-is, known_pushed w.parked_throttled w.queues.state w.tree c.args.queue c.from.result c.args.rank b.if-queue-eq-PARKED.false c.self.invariant.parked))
          c.unsettle_at.ensures c.push.ensures.state c.push.ensures.tasks
    ]
