use Rattle.std.proofs.Common.{◌≡◌, false, sym, ap, ◌∙◌}
use Rattle.scx_sched_world.specs.Ids.{global}
use Rattle.scx_sched_world.specs.World.{binds}
use Rattle.scx_sched_world.specs.Tasks.{brought}
use Rattle.scx_sched_world.proofs.Fronts.{unbound_fill}
use Rattle.scx_sched_world.proofs.world.World.fill_from_global.Goals as goal

pub returns-else-binds-clause-answer : goal.returns-else-binds-clause-answer
returns-else-binds-clause-answer c =
    let free : binds c.args.self.now ≡ false = sym c.binds.ensures ∙ c.if-binds.false in
    c.fill_from_front.ensures.answer ∙ unbound_fill c.args.self.now global c.args.cpu free

pub returns-else-binds-clause-world : goal.returns-else-binds-clause-world
returns-else-binds-clause-world c =
    let free : binds c.args.self.now ≡ false = sym c.binds.ensures ∙ c.if-binds.false in
    c.fill_from_front.ensures.world ∙ ap (λ o. brought o c.args.self.now c.args.cpu) (unbound_fill c.args.self.now global c.args.cpu free)
