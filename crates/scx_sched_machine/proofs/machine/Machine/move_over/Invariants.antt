use Rattle.std.proofs.Common.{◌≡◌, ◌+◌, ◌≤◌}
use Rattle.scx_sched_world.specs.Ejecting.{after_evictions, evict_notes}
use Rattle.scx_sched_machine.specs.Notes.{Takes}
use Rattle.scx_sched_machine.specs.Steps.{with_world}
use Rattle.scx_sched_machine.proofs.machine.Machine.move_over.Given as goal

-- those so far
abbrev pub invariant-loop-task : goal.invariant-loop-task
invariant-loop-task g l = record {
  few : l.self.world.queues.pushes ≤ l.fn.self.world.queues.pushes + l.task;
  state : l.self ≡ with_world l.fn.self (after_evictions l.task l.fn.self.world);
  notes : Takes g.H.Hearer.takes (g.H.Hearer.noted l.fn.hearer) (evict_notes l.task l.fn.self.world) (g.H.Hearer.noted l.hearer);
  calls : g.H.Hearer.told l.hearer ≡ g.H.Hearer.told l.fn.hearer;
}
