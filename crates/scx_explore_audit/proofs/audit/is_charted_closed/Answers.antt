use Rattle.scx_explore_audit.specs.Closed.{IsWithin, claim_of, depth_at}
use Rattle.scx_explore_audit.proofs.Settled.{marked_same}
use Rattle.scx_explore_audit.proofs.audit.is_charted_closed.Goals as goal

pub is_closed_with-closed-requires-clause-past : goal.is_closed_with-closed-requires-clause-past
is_closed_with-closed-requires-clause-past c =
    marked_same (λ k. IsWithin c.args.charted.table.limit (depth_at (claim_of c.args.charted) k) → ⊥) _ _ c.as_mut_slice.ensures.value c.in_ok-marks.ensures.past
