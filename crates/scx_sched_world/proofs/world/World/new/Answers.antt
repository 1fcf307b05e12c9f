use Rattle.std.proofs.Common.{◌≡◌, ◌∙◌, ℕ, length, ap, sym, arith, rules, refl, Option, None}
use Rattle.std.proofs.lemmas.List.{length-replicate}
use Rattle.scx_sched_tasks.specs.Tasks.{new_task}
use Rattle.scx_sched_world.specs.declared.timers.Alarm.{Alarm}
use Rattle.scx_sched_world.proofs.Busy.{none_busy}
use Rattle.scx_sched_world.proofs.Places.{at_first}
use Rattle.scx_sched_world.proofs.Running.{none_on}
use Rattle.scx_sched_world.proofs.world.World.new.Goals as goal

pub invariant_of-result : goal.invariant_of-result
invariant_of-result c =
    let made = c.in-Ok-Ok-Ok-Ok-Ok-Ok in
    let tasks = rw made.is-0 at c.new-tasks.ensures in
    let cpus = (rw made.is-1 at c.vec-running.ensures.items_if_clones_equal) (λ y e. search rules) in
    let running = (rw made.is-2 at c.vec-running_on.ensures.items_if_clones_equal) (λ y e. search rules) in
    let queued = rw made.is-3 at c.own_queues-queues.ensures.tasks in
    let notes = rw made.is-4 at c.with_capacity-notes.ensures.items in
    let timers = (rw made.is-5 at c.vec-timers.ensures.items_if_clones_equal) (λ y e. search rules) in
    let few = c.tasks-count.ensures in
    let count : length made.tasks ≡ c.tasks-count.result = ap length tasks ∙ length-replicate c.tasks-count.result new_task in
    record {
      notes = rw made.is-4 at c.with_capacity-notes.ensures.capacity;
      few_notes = rw notes (omega arith);
      queued = queued ∙ sym count;
      weighed = sym (count ∙ few.tasks);
      few_tasks = omega (arith, count, few.few);
      few_cpus = rw (cpus, length-replicate {A = Option ℕ} c.args.cpus None) c.requires;
      few_timers = rw (timers, length-replicate {A = Option Alarm} c.from.result None) (omega (arith, c.from.ensures, c.ranges.timers));
      busy = rw cpus (none_busy c.args.cpus);
      running = rw (running, cpus) (none_on c.tasks-count.result c.args.cpus);
      known_running = rw (running, length-replicate {A = ℕ} c.tasks-count.result 0) (sym count);
      places = rw (cpus, length-replicate {A = Option ℕ} c.args.cpus None, rw made.is-3 at c.own_queues-queues.ensures.queues) (at_first c.args.cpus c.tasks-count.result);
      early = omega arith;
      linux = refl;
      parked = λ known. absurd (cc);
      settled = λ on. absurd (cc);
    }
