use Rattle.std.proofs.Common.{◌≡◌, true, drop, refl, sym, ap, ◌∙◌, arith}
use Rattle.scx_load_driver.specs.Blocks.{ticks_of}
use Rattle.scx_load_driver.specs.Driver.{DriverState, remaining, is_empty, state_of, are_ticks_next}
use Rattle.scx_load_driver.proofs.Remaining.{only_ticks, all_taken}
use Rattle.scx_load_driver.proofs.Calm.{none_behind, noted_for_ticks, ticks_next}
use Rattle.scx_load_driver.proofs.Coming.{later_from, coming_for_ticks}
use Rattle.scx_load_driver.proofs.driver.Driver.begin_ticks.Goals as goal

pub returns-then-self-gt0 : goal.returns-then-self-gt0
returns-then-self-gt0 c = λ s.
    let inside = c.self.inside in
    let whole = c.self.invariant in
    let none : is_empty (state_of inside).pending ≡ true = ap (λ (d : DriverState). is_empty d.pending) c.self.view_is ∙ c.requires in
    let rest = none_behind (drop inside.cpu (ticks_of inside.cpus)) (drop inside.taken inside.events.items) none in
    let next = ap (λ w. are_ticks_next inside.phase inside.clock inside.next_change w) (sym c.soonest_wake-soonest.ensures) ∙ sym c.are_ticks_next.ensures ∙ c.if-are_ticks_next.true in
    ticks_next (state_of inside) inside.phase inside.clock inside.left inside.next_change inside.calendar _ s (omega (arith, c.if-self-gt0.true)) next (later_from inside.changes.items _ inside.coming inside.next_change whole.coming) whole.noted
    refl none (only_ticks inside.cpus (drop inside.taken inside.events.items) rest)
    ∙ ap (λ (d : DriverState). remaining d s) c.self.view_is

-- as the ticks begin all events before them were answered
pub invariant_of-self : goal.invariant_of-self
invariant_of-self c =
    let inside = c.self.inside in
    let whole = c.self.invariant in
    let none : is_empty (state_of inside).pending ≡ true = ap (λ (d : DriverState). is_empty d.pending) c.self.view_is ∙ c.requires in
    record {
      room = whole.room;
      taken = whole.taken;
      ticked = λ ticks. all_taken inside.cpu inside.cpus inside.taken inside.events.items whole.taken none;
      few_cpus = whole.few_cpus;
      cpu = omega arith;
      few_tasks = whole.few_tasks;
      few_changes = whole.few_changes;
      due = whole.due;
      ran = whole.ran;
      last = whole.last;
      watched = whole.watched;
      times = whole.times;
      sleeps = whole.sleeps;
      ordered = whole.ordered;
      coming = coming_for_ticks inside.changes.items inside.phase inside.clock inside.coming inside.next_change _ (sym c.are_ticks_next.ensures ∙ c.if-are_ticks_next.true) whole.coming;
      whole = whole.whole;
      noted = noted_for_ticks inside.due.items inside.phase inside.clock inside.calendar whole.noted;
      unwatched = whole.unwatched;
    }
