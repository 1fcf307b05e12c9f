use Rattle.std.proofs.Common.{rules, ◌≡◌, ◌+◌, false, not, length, sym, ap, ◌∙◌, subst, arith}
use Rattle.scx_sched_machine.specs.declared.events.Event.TheVariants.{Sleep}
use Rattle.scx_load_workloads.specs.Workload.{timing_at}
use Rattle.scx_load_driver.specs.Blocks.{events_below, set_below}
use Rattle.scx_load_driver.specs.Watch.{is_seen, is_seen_off}
use Rattle.scx_load_driver.specs.Calendar.{IsWhole, AreNoted}
use Rattle.scx_load_driver.proofs.Quiet.{unwatched_all}
use Rattle.scx_load_driver.proofs.Sleeping.{AreAsleep, none_asleep, asleep_to, one_more, one_less}
use Rattle.scx_load_driver.proofs.blocks.find_sleeps.Goals.{then-has_run_enough, else-has_run_enough}
use Rattle.scx_load_driver.proofs.blocks.find_sleeps.Goals as goal

pub loop-task-init : goal.loop-task-init
loop-task-init c =
    let w = c.args.sim.now.state.world in
    let next = c.next-task.ensures.next in
    record {
      asleep =
          asleep_to c.args.timings.now c.args.ran.now c.args.watched.now w c.args.now c.args.due.now 0 _ _ _ _
          (none_asleep c.args.timings.now c.args.ran.now c.args.watched.now w c.args.now c.args.due.now c.args.events.now.items c.requires.empty)
          c.next-task.result (omega arith) next.none;
      within = omega (arith, next.most);
      there = λ l. next.there (omega (arith, l));
      even = (search rules);
      even_watched = (search rules);
      whole = c.requires.whole;
      noted = c.requires.noted;
      few = (search rules);
      room = (search rules);
    }

pub loop-task-preserved : goal.loop-task-preserved
loop-task-preserved c =
    let k = c.loop-task.task in
    let w = c.args.sim.now.state.world in
    let inv = c.loop-task.invariant in
    let watched = inv.there (omega (arith, c.loop-task-test.true)) in
    let next = c.next-task-in-loop-task.ensures.next in
    let one : AreAsleep c.args.timings.now c.args.ran.now c.args.watched.now w c.args.now c.args.due.now (k + 1) c.if-has_run_enough.events.items c.if-has_run_enough.due c.if-has_run_enough.watched c.if-has_run_enough.some =
    elim c.if-has_run_enough.branch [
      | then-has_run_enough x ↦
          one_more c.args.timings.now c.args.ran.now c.args.watched.now w c.args.now c.args.due.now k _ _ _ _ inv.asleep _ _ _ _ watched
          (sym c.has_run_enough.ensures ∙ x.if-has_run_enough.true) (search rules) (x.due-is ∙ x.send_to_sleep.ensures.due) x.watched-is x.some-is
      | else-has_run_enough x ↦
          one_less c.args.timings.now c.args.ran.now c.args.watched.now w c.args.now c.args.due.now k _ _ _ _ inv.asleep _ _ _ _ watched
          (sym c.has_run_enough.ensures ∙ x.if-has_run_enough.false) (search rules) x.due-is (x.watched-is ∙ x.remove.ensures) x.some-is
    ] in
    record {
      asleep =
          asleep_to c.args.timings.now c.args.ran.now c.args.watched.now w c.args.now c.args.due.now (k + 1) _ _ _ _ one
          c.next-task-in-loop-task.result c.next-task-in-loop-task.ensures.after next.none;
      within = omega (arith, next.most);
      there = λ l. next.there (omega (arith, l));
      even = elim c.if-has_run_enough.branch [
        | then-has_run_enough x ↦ (search rules)
        | else-has_run_enough x ↦ (search rules)
      ];
      even_watched = elim c.if-has_run_enough.branch [
        | then-has_run_enough x ↦ (search rules)
        | else-has_run_enough x ↦ (search rules)
      ];
      whole = elim c.if-has_run_enough.branch [
        | then-has_run_enough x ↦ subst IsWhole (sym x.calendar-is) x.send_to_sleep.ensures.whole
        | else-has_run_enough x ↦ subst IsWhole (sym x.calendar-is) inv.whole
      ];
      noted = elim c.if-has_run_enough.branch [
        | then-has_run_enough x ↦
            subst (λ q. AreNoted c.if-has_run_enough.due (c.args.now + 1) q) (sym x.calendar-is)
            (subst (λ ds. AreNoted ds (c.args.now + 1) x.send_to_sleep.new.calendar) (sym x.due-is) x.send_to_sleep.ensures.noted)
        | else-has_run_enough x ↦
            subst (λ q. AreNoted c.if-has_run_enough.due (c.args.now + 1) q) (sym x.calendar-is)
            (subst (λ ds. AreNoted ds (c.args.now + 1) c.loop-task.calendar) (sym x.due-is) inv.noted)
      ];
      few = elim c.if-has_run_enough.branch [
        | then-has_run_enough x ↦ (search rules)
        | else-has_run_enough x ↦ (search rules)
      ];
      room = elim c.if-has_run_enough.branch [
        | then-has_run_enough x ↦ (search rules)
        | else-has_run_enough x ↦ (search rules)
      ];
    }

pub returns : goal.returns
returns c =
    let w = c.args.sim.now.state.world in
    let inv = c.loop-task.invariant in
    let end : c.loop-task.task ≡ length c.args.timings.now = omega (arith, inv.within, c.loop-task-test.false) in
    record {
      events = inv.asleep.events ∙ ap (λ n. events_below n (is_seen_off c.args.timings.now c.args.ran.now c.args.watched.now w) Sleep) end;
      due = inv.asleep.due ∙ ap (λ n. set_below n (is_seen_off c.args.timings.now c.args.ran.now c.args.watched.now w) (λ t. c.args.now + 1 + (timing_at c.args.timings.now t).sleep) c.args.due.now) end;
      watched = inv.asleep.watched ∙ ap (λ n. set_below n (λ t. not (is_seen c.args.timings.now c.args.ran.now c.args.watched.now w t)) (λ t. false) c.args.watched.now) end;
      even = inv.even;
      even_watched = inv.even_watched;
      unwatched = unwatched_all c.loop-task.task c.loop-task.some c.loop-task.watched (omega (arith, end, inv.even_watched)) inv.asleep.unwatched;
      whole = inv.whole;
      noted = inv.noted;
      room = inv.room;
    }
