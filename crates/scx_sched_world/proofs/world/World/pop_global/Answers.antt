use Rattle.std.proofs.Common.{◌∙◌}
use Rattle.scx_sched_world.specs.Ids.{global}
use Rattle.scx_sched_world.proofs.Parked.{known_popped}
use Rattle.scx_sched_world.proofs.Places.{popped, global_stands}
use Rattle.scx_sched_world.proofs.Settled.{settled_popped}
use Rattle.scx_sched_world.proofs.world.World.pop_global.Goals as goal

pub pop_at-requires : goal.pop_at-requires
pop_at-requires c = global_stands c.self.inside.queues.state _ c.self.invariant.places

pub invariant_of-self-2 : goal.invariant_of-self-2
invariant_of-self-2 c = record {
  notes = c.self.invariant.notes;
  few_notes = c.self.invariant.few_notes;
  queued = c.pop_at.ensures.tasks ∙ c.self.invariant.queued;
  weighed = c.self.invariant.weighed;
  few_tasks = c.self.invariant.few_tasks;
  few_cpus = c.self.invariant.few_cpus;
  few_timers = c.self.invariant.few_timers;
  busy = c.self.invariant.busy;
  running = c.self.invariant.running;
  known_running = c.self.invariant.known_running;
  places = rw c.pop_at.ensures.state (popped c.self.inside.queues.state _ global ∙ c.self.invariant.places);
  early = c.self.invariant.early;
  linux = c.self.invariant.linux;
  parked = rw c.pop_at.ensures.state (known_popped _ c.self.inside.queues.state c.self.inside.tree global c.self.invariant.parked);
  settled = rw c.pop_at.ensures.state (settled_popped c.self.inside global c.self.invariant);
}
