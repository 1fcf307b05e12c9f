use Rattle.std.proofs.Common.{◌≡◌, ℕ, true, ◌∙◌, refl, sym}
use Rattle.scx_dsq.specs.Queues.{exists}
use Rattle.scx_explore_audit.proofs.Numbered.{none_met, queues_at}
use Rattle.scx_explore_audit.proofs.queues.meet_all.Goals as goal

pub loop-init : goal.loop-init
loop-init c = record { root = refl; room = refl; tried = c.requires.tried; queues = none_met (λ (id : ℕ). exists c.args.path.now.root.state.world.queues id ≡ true) _ c.requires.none }

pub loop-preserved : goal.loop-preserved
loop-preserved c = record {
  root = c.come_on.ensures.root ∙ c.loop.invariant.root;
  room = c.come_on.ensures.room ∙ c.loop.invariant.room;
  tried = c.come_on.ensures.tried;
  queues = queues_at c.loop.path.root c.args.path.now.root _ c.loop.invariant.root c.meet_after.ensures;
}

pub meet_after-requires : goal.meet_after-requires
meet_after-requires c = queues_at c.args.path.now.root c.loop.path.root _ (sym c.loop.invariant.root) c.loop.invariant.queues
