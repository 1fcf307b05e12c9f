use Rattle.std.proofs.Common.{◌≡◌, ap, ◌∙◌}
use Rattle.scx_weights.specs.Hierarchy.{mask_of}
use Rattle.scx_sched_world.proofs.Picks.{in_mask}
use Rattle.scx_sched_world.proofs.world.World.mask.Goals as goal

pub returns : goal.returns
returns c k =
    let is : c.mask_of.result ≡ mask_of c.self.inside.tree c.args.task = c.mask_of.ensures ∙ ap (λ t. mask_of c.self.inside.tree t) c.from.ensures in
    rw (is, ← c.self.view_is) (in_mask c.self.inside.tree c.args.task k)
