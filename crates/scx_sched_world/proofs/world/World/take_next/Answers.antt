use Rattle.std.proofs.Common.{◌≡◌, false, sym, ◌∙◌}
use Rattle.scx_sched_world.specs.World.{binds}
use Rattle.scx_sched_world.proofs.Fronts.{unbound_next, nobody_leaves}
use Rattle.scx_sched_world.proofs.world.World.take_next.Goals as goal

pub returns-then-not-binds-clause-answer : goal.returns-then-not-binds-clause-answer
returns-then-not-binds-clause-answer c =
    let free : binds c.args.self.now ≡ false = sym c.binds.ensures ∙ c.if-not-binds.true in
    c.pop_at.ensures.answer ∙ sym (unbound_next c.args.self.now c.args.queue c.args.self.now.call.cpu free)

pub returns-then-not-binds-clause-stays : goal.returns-then-not-binds-clause-stays
returns-then-not-binds-clause-stays c = nobody_leaves c.args.self.now c.pop_at.new.self c.args.queue c.pop_at.result c.pop_at.ensures.answer c.pop_at.ensures.world
