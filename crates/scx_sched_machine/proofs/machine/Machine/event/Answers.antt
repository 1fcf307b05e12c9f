use Rattle.scx_sched_machine.proofs.Taking.{are_answered}
use Rattle.scx_sched_machine.proofs.machine.Machine.event.Goals as goal

pub returns : goal.returns
returns g c = let h = c.event_heard.ensures in record {
  state = h.state;
  notes = h.notes;
  few = h.few;
  answered = are_answered _ _ _ _ h.calls;
}
