use Rattle.std.proofs.Common.{◌≡◌, length}
use Rattle.scx_explore_audit.specs.Closed.{claim_of}
use Rattle.scx_explore_audit.specs.Marks.{ArePast}
use Rattle.scx_explore_audit.proofs.depths.mark_past.Given as goal

-- a list that leads to a state that is marked may have no more moves
abbrev pub invariant-loop-state : goal.invariant-loop-state
invariant-loop-state l = record {
  each : length l.marks ≡ length l.fn.marks;
  past : ArePast (claim_of l.charted) l.marks;
}
