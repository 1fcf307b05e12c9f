use Rattle.std.proofs.Common.{◌≡◌, length, ap, ◌∙◌, refl, subst, arith}
use Rattle.scx_sched_machine.specs.Notes.{Takes}
use Rattle.scx_sched_machine.specs.Hearing.{Hears}
use Rattle.scx_sched_machine.specs.Steps.{State}
use Rattle.scx_sched_machine.specs.Firing.{fire, fire_below, fire_all}
use Rattle.scx_sched_machine.proofs.Taking.{Takes-append, Hears-append}
use Rattle.scx_sched_machine.proofs.Unchanged.{left_few}
use Rattle.scx_sched_machine.proofs.Alarms.{fired_next}
use Rattle.scx_sched_machine.proofs.machine.Machine.fire_each.Goals as goal

pub fire-requires : goal.fire-requires
fire-requires g c = omega (arith, c.loop-timer.invariant.few, left_few c.args.self.now, c.requires)

pub loop-timer-preserved : goal.loop-timer-preserved
loop-timer-preserved g c =
    let s = c.args.self.now in
    let n = c.loop-timer.timer in
    let h = g.H.Hearer in
    let inv = c.loop-timer.invariant in
    record {
      state = c.fire.ensures.does.state ∙ ap (λ (x : State). (fire x n).state) inv.state ∙ rw (fired_next n s) refl;
      notes = rw (fired_next n s) (Takes-append h.takes _ _ _ _ _ inv.notes (subst (λ (x : State). Takes h.takes (h.noted c.loop-timer.hearer) (fire x n).notes (h.noted c.fire.new.hearer)) inv.state c.fire.ensures.does.notes));
      few = omega (arith, inv.few, c.fire.ensures.calm);
      calls = rw (fired_next n s) (Hears-append h.hears _ _ _ _ _ inv.calls (subst (λ (x : State). Hears h.hears (h.told c.loop-timer.hearer) (fire x n).calls (h.told c.fire.new.hearer)) inv.state c.fire.ensures.does.calls));
    }

pub returns : goal.returns
unfolding fire_all
returns g c =
    let s = c.args.self.now in
    let h = g.H.Hearer in
    let inv = c.loop-timer.invariant in
    let seen : length c.self.inside.world.timers ≡ length s.world.timers = ap (λ (x : State). length x.world.timers) c.self.view_is in
    let all : c.loop-timer.timer ≡ length s.world.timers = omega (arith, c.loop-timer-test.false, c.loop-timer.auto.timer-end, c.timers-timer-end.ensures.timers, seen) in
    record {
      state = inv.state ∙ ap (λ n. (fire_below n s).state) all;
      notes = subst (λ n. Takes h.takes (h.noted c.args.hearer.now) (fire_below n s).notes (h.noted c.loop-timer.hearer)) all inv.notes;
      few = omega (arith, inv.few, left_few s);
      calls = subst (λ n. Hears h.hears (h.told c.args.hearer.now) (fire_below n s).calls (h.told c.loop-timer.hearer)) all inv.calls;
    }
