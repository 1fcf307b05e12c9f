use Rattle.std.proofs.Common.{◌∙◌}
use Rattle.scx_sched_world.proofs.Parked.{known_created}
use Rattle.scx_sched_world.proofs.Places.{created}
use Rattle.scx_sched_world.proofs.Settled.{settled_created}
use Rattle.scx_sched_world.proofs.world.World.create.Goals as goal

pub invariant_of-self : goal.invariant_of-self
invariant_of-self c = record {
  notes = c.self.invariant.notes;
  few_notes = c.self.invariant.few_notes;
  queued = c.create.ensures.tasks ∙ c.self.invariant.queued;
  weighed = c.self.invariant.weighed;
  few_tasks = c.self.invariant.few_tasks;
  few_cpus = c.self.invariant.few_cpus;
  few_timers = c.self.invariant.few_timers;
  busy = c.self.invariant.busy;
  running = c.self.invariant.running;
  known_running = c.self.invariant.known_running;
  places = rw c.create.ensures.state (created c.self.inside.queues.state _ c.args.queue c.self.invariant.places);
  early = c.self.invariant.early;
  linux = c.self.invariant.linux;
  parked = rw c.create.ensures.state (known_created _ c.self.inside.queues.state c.self.inside.tree c.args.queue c.self.invariant.parked);
  settled = rw c.create.ensures.state (settled_created c.self.inside c.args.queue c.self.invariant);
}
