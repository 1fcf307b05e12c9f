use Rattle.std.proofs.Common.{◌≡◌, ◌+◌, ◌%◌, ◌<◌, ◌≤◌, ℕ, List, length, get_or, sym, ap, ◌∙◌, refl, subst, arith}
use Rattle.std.proofs.lemmas.List.{length-set}
use Rattle.scx_load_driver.proofs.Days.{AreLeft, AreLater, left_after, later_after, later_next, noted_anew}
use Rattle.scx_load_driver.proofs.calendar.Calendar.refresh.Goals as goal

pub loop-task-init : goal.loop-task-init
loop-task-init c =
    let next = c.next-task.ensures.next in
    let left : AreLeft c.args.due.now c.args.now c.args.self.now.there = λ t l y. (c.requires.noted t l (omega (arith, y))).0 in
    record {
      days = refl;
      whole = c.requires.whole;
      within = omega (arith, next.most);
      left = left;
      later = later_next 0 c.next-task.result c.args.due.now c.args.now 4294967295 c.args.self.now.there (omega (arith, next.most)) left next.none (λ t l y e. absurd (omega (arith, l)));
    }

pub loop-task-preserved : goal.loop-task-preserved
loop-task-preserved c =
    let k = c.loop-task.task in
    let inv = c.loop-task.invariant in
    let due = c.args.due.now in
    let now = c.args.now in
    let next = c.next-task-in-loop-task.ensures.next in
    let within : k < length due = omega (arith, c.loop-task-test.true) in
    let left = left_after due now k c.loop-task.self.there c.look_at-soonest.new.self.there within c.requires.few c.look_at-soonest.ensures.there inv.left in
    let later = later_after k due now c.loop-task.soonest c.look_at-soonest.result c.look_at-soonest.ensures.soonest inv.later in
    record {
      days = c.look_at-soonest.ensures.days ∙ inv.days;
      whole = c.look_at-soonest.ensures.whole;
      within = omega (arith, next.most);
      left = left;
      later = later_next (k + 1) c.next-task-in-loop-task.result due now c.look_at-soonest.result c.look_at-soonest.new.self.there (omega (arith, next.most)) left next.none later;
    }

pub returns : goal.returns
returns c =
    let inv = c.loop-task.invariant in
    let due = c.args.due.now in
    let end : c.loop-task.task ≡ length due = omega (arith, inv.within, c.loop-task-test.false) in
    let same : c.loop-task.self.soonest ≡ c.args.self.now.soonest = inv.days in
    record {
      whole = record { days = length-set c.loop-task.self.soonest (c.args.now % 256) c.loop-task.soonest ∙ ap length same ∙ c.requires.whole.days; spots = inv.whole.spots };
      noted =
          noted_anew due c.args.now c.loop-task.soonest c.loop-task.self.soonest _ refl (ap length same ∙ c.requires.whole.days) inv.left
          (subst (λ k. AreLater k due c.args.now c.loop-task.soonest) end inv.later)
          (λ t l y. subst (λ (xs : List ℕ). get_or xs (get_or due t 0 % 256) 0 ≤ get_or due t 0) (sym same) (c.requires.noted t l (omega (arith, y))).1);
    }
