use Rattle.std.proofs.Common.{refl, ap, ◌∙◌}
use Rattle.scx_sched_world.specs.World.{WorldState}
use Rattle.scx_sched_world.specs.Kept.{state_of}
use Rattle.scx_sched_world.specs.Pending.{is_pending}
use Rattle.scx_sched_world.proofs.Keeping.{queues_changed}
use Rattle.scx_sched_world.proofs.Settled.{settled_one}
use Rattle.scx_sched_world.proofs.world.World.settle.Goals as goal

pub invariant_of-self : goal.invariant_of-self
invariant_of-self c =
    let w = c.self.inside in
    let is = c.self.invariant in
    let new = c.with_bit-self-inside in
    queues_changed w w.queues w.parked_throttled new.result is refl is.places is.parked
    (settled_one w.by_linux w.unsettled new.result c.args.cpu (state_of w) is.few_cpus (ap (λ (v : WorldState). is_pending v c.args.cpu) c.self.view_is ∙ c.requires.settled) new.ensures.others is.settled)
