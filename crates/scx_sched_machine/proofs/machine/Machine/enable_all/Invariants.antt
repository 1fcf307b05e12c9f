use Rattle.std.proofs.Common.{◌≡◌, ◌+◌, ◌*◌, ◌≤◌, Ok}
use Rattle.scx_sched_machine.specs.Callbacks.{AreAnswered}
use Rattle.scx_sched_machine.specs.Hearing.{Hears}
use Rattle.scx_sched_machine.specs.Start.{after_enables, calls_below}
use Rattle.scx_sched_machine.proofs.machine.Machine.enable_all.Given as goal

-- those so far are enabled, and the hearer was told of them
abbrev pub invariant-loop-task : goal.invariant-loop-task
invariant-loop-task g l = record {
  state : after_enables l.task l.fn.self ≡ Ok l.self;
  few : l.self.world.queues.pushes ≤ l.fn.self.world.queues.pushes + 8192 * l.task;
  answered : AreAnswered (calls_below l.task l.fn.self);
  calls : Hears g.H.Hearer.hears (g.H.Hearer.told l.fn.hearer) (calls_below l.task l.fn.self) (g.H.Hearer.told l.hearer);
  notes : g.H.Hearer.noted l.hearer ≡ g.H.Hearer.noted l.fn.hearer;
}
