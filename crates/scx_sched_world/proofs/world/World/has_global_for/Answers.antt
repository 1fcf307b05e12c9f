use Rattle.std.proofs.Common.{◌≡◌, false, is_some, sym, ap, ◌∙◌}
use Rattle.scx_sched_world.specs.Ids.{global}
use Rattle.scx_sched_world.specs.World.{binds}
use Rattle.scx_sched_world.proofs.Fronts.{unbound_next}
use Rattle.scx_sched_world.proofs.world.World.has_global_for.Goals as goal

pub returns-else-binds : goal.returns-else-binds
returns-else-binds c =
    let free : binds c.args.self.now ≡ false = sym c.binds.ensures ∙ c.if-binds.false in
    c.has_global.ensures.front ∙ ap is_some (sym (unbound_next c.args.self.now global c.args.cpu free))
