use Rattle.std.proofs.Common.{◌≡◌, ◌+◌, ◌^◌, ◌≤◌, length, ap, ◌∙◌, arith}
use Rattle.scx_sched_world.specs.World.{WorldState}
use Rattle.scx_sched_world.proofs.Quiet.{ticked_clock, ticked_pushes}
use Rattle.scx_sched_world.proofs.world.World.skip.Goals as goal

pub invariant_of-self : goal.invariant_of-self
invariant_of-self c =
    let w = c.args.self.now in
    let is = c.self.invariant in
    let same : c.self.inside.clock ≡ w.clock = ap (λ (x : WorldState). x.clock) (c.self.view_is ∙ c.tick_all_for.ensures) ∙ ticked_clock c.args.ms (length w.cpus) w in
    record {
      notes = is.notes;
      few_notes = is.few_notes;
      queued = is.queued;
      weighed = is.weighed;
      few_tasks = is.few_tasks;
      few_cpus = is.few_cpus;
      few_timers = is.few_timers;
      busy = is.busy;
      running = is.running;
      known_running = is.known_running;
      places = is.places;
      early = omega (arith, same, c.requires.clock);
      linux = is.linux;
      parked = is.parked;
      settled = is.settled;
    }

pub returns-clause-few : goal.returns-clause-few
returns-clause-few c =
    let w = c.args.self.now in
    c.begin_periods.ensures.few ∙ ap (λ (x : WorldState). x.queues.pushes) (c.self.view_is ∙ c.tick_all_for.ensures) ∙ ticked_pushes c.args.ms (length w.cpus) w
