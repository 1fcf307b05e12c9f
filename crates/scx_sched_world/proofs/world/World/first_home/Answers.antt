use Rattle.std.proofs.Common.{◌≡◌, true, Some, None, refl, sym, ◌∙◌}
use Rattle.scx_weights.specs.Hierarchy.{is_in_mask}
use Rattle.scx_sched_world.specs.World.{binds, lowest_cpu}
use Rattle.scx_sched_world.proofs.world.World.first_home.Goals as goal

pub returns-in-Some-clause-home : goal.returns-in-Some-clause-home
returns-in-Some-clause-home c =
    let bound : binds c.args.self.now ≡ true = sym c.binds.ensures ∙ c.if-not-binds.false in
    let low : Some c.in-Some.cpu ≡ lowest_cpu c.args.self.now (is_in_mask c.args.self.now.tree c.args.task) = c.in-Some.ensures.lowest (is_in_mask c.args.self.now.tree c.args.task) (λ k l m. c.mask.ensures k) in
    rw (bound, ← low) refl

pub returns-in-None-clause-home : goal.returns-in-None-clause-home
returns-in-None-clause-home c =
    let bound : binds c.args.self.now ≡ true = sym c.binds.ensures ∙ c.if-not-binds.false in
    let low : None ≡ lowest_cpu c.args.self.now (is_in_mask c.args.self.now.tree c.args.task) = c.in-None.ensures.lowest (is_in_mask c.args.self.now.tree c.args.task) (λ k l m. c.mask.ensures k) in
    rw (bound, ← low) refl
