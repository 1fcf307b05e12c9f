use Rattle.std.proofs.Common.{◌≡◌, take}
use Rattle.scx_sched_machine.specs.Notes.{Takes}
use Rattle.scx_sched_machine.proofs.callbacks.flush.Given as goal

-- the notes so far were taken, and nothing was told
abbrev pub invariant-loop-note : goal.invariant-loop-note
invariant-loop-note g l = record {
  notes : Takes g.H.Hearer.takes (g.H.Hearer.noted l.fn.hearer) (take l.note-index l.note-items) (g.H.Hearer.noted l.hearer);
  calls : g.H.Hearer.told l.hearer ≡ g.H.Hearer.told l.fn.hearer;
}
