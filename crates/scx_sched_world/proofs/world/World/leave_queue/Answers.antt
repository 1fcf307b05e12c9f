use Rattle.std.proofs.Common.{◌∙◌}
use Rattle.scx_sched_world.proofs.Parked.{known_removed}
use Rattle.scx_sched_world.proofs.Places.{removed}
use Rattle.scx_sched_world.proofs.Settled.{settled_removed}
use Rattle.scx_sched_world.proofs.world.World.leave_queue.Goals as goal

pub invariant_of-self : goal.invariant_of-self
invariant_of-self c = record {
  notes = c.self.invariant.notes;
  few_notes = c.self.invariant.few_notes;
  queued = c.remove.ensures.tasks ∙ c.self.invariant.queued;
  weighed = c.self.invariant.weighed;
  few_tasks = c.self.invariant.few_tasks;
  few_cpus = c.self.invariant.few_cpus;
  few_timers = c.self.invariant.few_timers;
  busy = c.self.invariant.busy;
  running = c.self.invariant.running;
  known_running = c.self.invariant.known_running;
  places = rw c.remove.ensures.state (removed c.self.inside.queues.state _ c.from.result ∙ c.self.invariant.places);
  early = c.self.invariant.early;
  linux = c.self.invariant.linux;
  parked = rw c.remove.ensures.state (known_removed _ c.self.inside.queues.state c.self.inside.tree c.from.result c.self.invariant.parked);
  settled = rw c.remove.ensures.state (settled_removed c.self.inside c.from.result c.self.invariant);
}
