use Rattle.std.proofs.Common.{arith, ◌∙◌}
use Rattle.scx_sched_machine.proofs.Taking.{Takes-next}
use Rattle.scx_sched_machine.proofs.callbacks.flush.Goals as goal

pub loop-note-preserved : goal.loop-note-preserved
loop-note-preserved g c =
    let h = g.H.Hearer in
    record {
      notes = Takes-next h.takes (h.noted c.args.hearer.now) (h.noted c.loop-note.hearer) (h.noted c.note.new.self) c.notes-note-items.result.now c.loop-note.note-index _ (omega arith) c.loop-note.invariant.notes c.note.ensures.notes;
      calls = c.note.ensures.calls ∙ c.loop-note.invariant.calls;
    }
