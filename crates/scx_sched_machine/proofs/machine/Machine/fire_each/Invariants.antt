use Rattle.std.proofs.Common.{◌≡◌, ◌≤◌}
use Rattle.scx_sched_machine.specs.Notes.{Takes}
use Rattle.scx_sched_machine.specs.Hearing.{Hears}
use Rattle.scx_sched_machine.specs.Budgets.{pushes_due}
use Rattle.scx_sched_machine.specs.Firing.{fire_below}
use Rattle.scx_sched_machine.proofs.machine.Machine.fire_each.Given as goal

-- those so far ran, if they were due
abbrev pub invariant-loop-timer : goal.invariant-loop-timer
invariant-loop-timer g l = record {
  state : l.self ≡ (fire_below l.timer l.fn.self).state;
  notes : Takes g.H.Hearer.takes (g.H.Hearer.noted l.fn.hearer) (fire_below l.timer l.fn.self).notes (g.H.Hearer.noted l.hearer);
  few : pushes_due l.self ≤ pushes_due l.fn.self;
  calls : Hears g.H.Hearer.hears (g.H.Hearer.told l.fn.hearer) (fire_below l.timer l.fn.self).calls (g.H.Hearer.told l.hearer);
}
