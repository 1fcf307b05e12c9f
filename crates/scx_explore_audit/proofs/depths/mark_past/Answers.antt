use Rattle.std.proofs.Common.{◌∙◌, refl, arith}
use Rattle.std.proofs.lemmas.List.{length-set}
use Rattle.scx_explore_audit.specs.Closed.{IsWithin, claim_of, depth_at}
use Rattle.scx_explore_audit.proofs.Settled.{marked, none_marked}
use Rattle.scx_explore_audit.proofs.depths.mark_past.Goals as goal

pub loop-state-init : goal.loop-state-init
loop-state-init c = record {
  each = refl;
  past = none_marked (λ k. IsWithin c.args.charted.table.limit (depth_at (claim_of c.args.charted) k) → ⊥) c.args.marks.now c.requires;
}

pub loop-state-preserved : goal.loop-state-preserved
loop-state-preserved c = record {
  each = length-set c.loop-state.marks c.loop-state.state _ ∙ c.loop-state.invariant.each;
  past = marked (λ k. IsWithin c.args.charted.table.limit (depth_at (claim_of c.args.charted) k) → ⊥) c.loop-state.state _ c.loop-state.marks (omega (arith, c.loop-state-test.true, c.loop-state.invariant.each)) c.loop-state.invariant.past c.is_past.ensures;
}
