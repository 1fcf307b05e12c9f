use Rattle.std.proofs.Common.{◌∙◌, refl, ap}
use Rattle.std.proofs.lemmas.List.{length-set}
use Rattle.scx_explore_findings.specs.Path.{PathState}
use Rattle.scx_explore_audit.specs.Closed.{IsSettled, claim_of}
use Rattle.scx_explore_audit.proofs.Settled.{all_marked, marked_past, one_marked, settled_at}
use Rattle.scx_explore_audit.proofs.TriedPaths.{tried_same}
use Rattle.scx_explore_audit.proofs.audit.are_done.Goals as goal

pub loop-init : goal.loop-init
loop-init c = record {
  root = refl;
  room = refl;
  tried = c.requires.tried;
  each = refl;
  settled = marked_past (claim_of c.args.charted) c.args.path.now.root c.args.path.now.room c.args.marks.now c.requires.past;
}

pub loop-preserved : goal.loop-preserved
loop-preserved c =
    let root = ap (λ (p : PathState). p.root) c.is_done.ensures.same in
    let room = ap (λ (p : PathState). p.room) c.is_done.ensures.same in
    record {
      root = c.come_on.ensures.root ∙ (root ∙ c.loop.invariant.root);
      room = c.come_on.ensures.room ∙ (room ∙ c.loop.invariant.room);
      tried = c.come_on.ensures.tried;
      each = length-set c.loop.marks c.loop.state _ ∙ c.loop.invariant.each;
      settled = one_marked (λ k. IsSettled (claim_of c.args.charted) c.args.path.now.root c.args.path.now.room k) c.loop.state c.loop.marks c.loop.invariant.settled (settled_at (claim_of c.args.charted) _ _ _ _ c.loop.state c.loop.invariant.root c.loop.invariant.room (c.is_done.ensures.done c.if-not-is_done.false));
    }

pub returns-in-None : goal.returns-in-None
returns-in-None c is =
    all_marked (λ k. IsSettled (claim_of c.args.charted) c.args.path.now.root c.args.path.now.room k) c.args.charted.table.seen.now.count _ (length-set c.loop.marks c.loop.state _ ∙ (c.loop.invariant.each ∙ c.requires.each)) (one_marked (λ k. IsSettled (claim_of c.args.charted) c.args.path.now.root c.args.path.now.room k) c.loop.state c.loop.marks c.loop.invariant.settled (settled_at (claim_of c.args.charted) _ _ _ _ c.loop.state c.loop.invariant.root c.loop.invariant.room (c.is_done.ensures.done c.if-not-is_done.false))) (c.are_set.ensures is)

pub come_on-requires : goal.come_on-requires
come_on-requires c = tried_same c.loop.path _ c.is_done.ensures.same c.loop.invariant.tried
