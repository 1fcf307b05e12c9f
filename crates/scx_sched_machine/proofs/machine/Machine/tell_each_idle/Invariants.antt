use Rattle.std.proofs.Common.{◌≡◌, ◌+◌, ◌*◌, ◌≤◌, Ok}
use Rattle.scx_sched_machine.specs.Callbacks.{AreAnswered}
use Rattle.scx_sched_machine.specs.Hearing.{Hears}
use Rattle.scx_sched_machine.specs.Start.{after_idles, idle_calls_below}
use Rattle.scx_sched_machine.proofs.machine.Machine.tell_each_idle.Given as goal

-- those so far were heard of, and the hearer was told of that
abbrev pub invariant-loop-cpu : goal.invariant-loop-cpu
invariant-loop-cpu g l = record {
  state : after_idles l.cpu l.fn.self ≡ Ok l.self;
  few : l.self.world.queues.pushes ≤ l.fn.self.world.queues.pushes + 4096 * l.cpu;
  answered : AreAnswered (idle_calls_below l.cpu l.fn.self);
  calls : Hears g.H.Hearer.hears (g.H.Hearer.told l.fn.hearer) (idle_calls_below l.cpu l.fn.self) (g.H.Hearer.told l.hearer);
  notes : g.H.Hearer.noted l.hearer ≡ g.H.Hearer.noted l.fn.hearer;
}
