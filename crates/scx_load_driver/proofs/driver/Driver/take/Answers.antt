use Rattle.std.proofs.Common.{rules, ◌≡◌, ◌≤◌, length, drop, ◌++◌, sym, ap, ◌∙◌, arith}
use Rattle.scx_load_driver.specs.Driver.{DriverState, is_empty}
use Rattle.scx_load_driver.proofs.LastTicks.{length_last}
use Rattle.scx_load_driver.proofs.Remaining.{next_tick, some_event, next_event}
use Rattle.scx_load_driver.proofs.driver.Driver.take.Goals as goal

pub index-event-requires : goal.index-event-requires
index-event-requires c =
    let inside = c.self.inside in
    let some = some_event inside.cpu inside.cpus inside.taken inside.events.items (omega (arith, c.if-self.false)) (ap (λ (d : DriverState). is_empty d.pending) c.self.view_is ∙ c.requires) in
    omega (arith, some, inside.events.ok.0)

pub returns-then-self-clause-event : goal.returns-then-self-clause-event
returns-then-self-clause-event c =
    let inside = c.self.inside in
    sym (ap (λ (d : DriverState). d.pending) c.self.view_is)
    ∙ ap (λ ts. ts ++ drop inside.taken inside.events.items) (next_tick inside.cpus inside.cpu (omega (arith, c.if-self.true)))

pub invariant_of-self-else-self : goal.invariant_of-self-else-self
invariant_of-self-else-self c =
    let inside = c.self.inside in
    let whole = c.self.invariant in
    let some = some_event inside.cpu inside.cpus inside.taken inside.events.items (omega (arith, c.if-self.false)) (ap (λ (d : DriverState). is_empty d.pending) c.self.view_is ∙ c.requires) in
    let even : length c.watch_event.new.watched ≡ length inside.timings.items =
    c.watch_event.ensures.even ∙ ap length c.deref-else-self.ensures.value ∙ ap length whole.last ∙ length_last inside.timings.items inside.ran.items in
    record {
      room = whole.room;
      taken = omega (arith, some);
      ticked = λ ticks. absurd (omega (arith, some, whole.ticked ticks));
      few_cpus = whole.few_cpus;
      cpu = whole.cpu;
      few_tasks = whole.few_tasks;
      few_changes = whole.few_changes;
      due = whole.due;
      ran = whole.ran;
      last = whole.last;
      watched = even;
      times = whole.times;
      sleeps = whole.sleeps;
      ordered = whole.ordered;
      coming = whole.coming;
      whole = whole.whole;
      noted = whole.noted;
      unwatched = c.watch_event.ensures.unwatched;
    }

pub returns-else-self-clause-event : goal.returns-else-self-clause-event
returns-else-self-clause-event c =
    let inside = c.self.inside in
    let last : inside.cpus ≤ inside.cpu = omega (arith, c.if-self.false) in
    let some = some_event inside.cpu inside.cpus inside.taken inside.events.items last (ap (λ (d : DriverState). is_empty d.pending) c.self.view_is ∙ c.requires) in
    sym (ap (λ (d : DriverState). d.pending) c.self.view_is)
    ∙ next_event inside.cpu inside.cpus inside.taken inside.events.items c.index-event.result.now last some (search rules)
