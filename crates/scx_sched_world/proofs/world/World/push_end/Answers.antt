use Rattle.std.proofs.Common.{◌<◌, ◌∙◌, Some, length, ap, arith}
use Rattle.scx_dsq.specs.declared.entries.Rank.TheVariants.{Fifo}
use Rattle.scx_sched_world.specs.Ids.{local_on}
use Rattle.scx_sched_world.proofs.Parked.{known_pushed}
use Rattle.scx_sched_world.proofs.Places.{pushed, local_stands}
use Rattle.scx_sched_world.proofs.Settled.{settled_pushed}
use Rattle.scx_sched_world.proofs.world.World.push_end.Goals as goal

pub push_fifo_at-refused-requires-clause-place : goal.push_fifo_at-refused-requires-clause-place
push_fifo_at-refused-requires-clause-place c =
    let within : c.args.cpu < length c.self.inside.cpus.items = omega arith in
    rw c.from-queue.ensures (local_stands c.self.inside.queues.state _ c.args.cpu c.self.invariant.places within)

pub invariant_of-self : goal.invariant_of-self
invariant_of-self c = record {
  notes = c.self.invariant.notes;
  few_notes = c.self.invariant.few_notes;
  queued = c.push_fifo_at-refused.ensures.tasks ∙ c.self.invariant.queued;
  weighed = c.self.invariant.weighed;
  few_tasks = c.self.invariant.few_tasks;
  few_cpus = c.self.invariant.few_cpus;
  few_timers = c.self.invariant.few_timers;
  busy = c.self.invariant.busy;
  running = c.self.invariant.running;
  known_running = c.self.invariant.known_running;
  places = rw c.push_fifo_at-refused.ensures.state (pushed c.self.inside.queues.state _ (local_on c.from-queue.result) c.from.result Fifo ∙ c.self.invariant.places);
  early = c.self.invariant.early;
  linux = c.self.invariant.linux;
  parked = rw c.push_fifo_at-refused.ensures.state (known_pushed _ c.self.inside.queues.state c.self.inside.tree (local_on c.from-queue.result) c.from.result Fifo (λ e. omega (arith, e, c.from-queue.ensures)) c.self.invariant.parked);
  settled = rw c.push_fifo_at-refused.ensures.state (settled_pushed c.self.inside c.unsettle.new.bits (local_on c.from-queue.result) c.from.result Fifo c.self.invariant (λ on k l clear. let mark = c.unsettle.ensures on k l clear in (mark.0, λ e. mark.1 (ap (λ n. Some n) (omega (arith, e, c.from-queue.ensures))))));
}
