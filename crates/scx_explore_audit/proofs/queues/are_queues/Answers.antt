use Rattle.std.proofs.Common.{◌≡◌, ℕ, true, ap, ◌∙◌, arith}
use Rattle.scx_dsq.specs.Queues.{exists}
use Rattle.scx_explore_findings.specs.Path.{PathState}
use Rattle.scx_explore_audit.proofs.Numbered.{all_numbered, queues_at}
use Rattle.scx_explore_audit.proofs.Settled.{begun_tried}
use Rattle.scx_explore_audit.proofs.queues.are_queues.Goals as goal

pub meet_all-requires-clause-none : goal.meet_all-requires-clause-none
meet_all-requires-clause-none c = c.in_ok-met.ensures

pub meet_all-requires-clause-tried : goal.meet_all-requires-clause-tried
meet_all-requires-clause-tried c = begun_tried c.args.path.now _ c.go_back.ensures

pub returns-clause-root : goal.returns-clause-root
returns-clause-root c = c.meet_all.ensures.root ∙ ap (λ (p : PathState). p.root) c.go_back.ensures

pub returns-clause-room : goal.returns-clause-room
returns-clause-room c = c.meet_all.ensures.room ∙ ap (λ (p : PathState). p.room) c.go_back.ensures

pub returns-clause-numbers : goal.returns-clause-numbers
returns-clause-numbers c = λ is. record {
  queues =
      all_numbered (λ (id : ℕ). exists c.args.path.now.root.state.world.queues id ≡ true) _ _
      (queues_at _ c.args.path.now.root _ (ap (λ (p : PathState). p.root) c.go_back.ensures) c.meet_all.ensures.queues)
      (c.has_all-all.ensures is);
  few = omega (arith, c.len-few.ensures.count, c.len-few.ensures.few);
}
