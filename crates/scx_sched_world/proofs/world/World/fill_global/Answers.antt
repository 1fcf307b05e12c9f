use Rattle.std.proofs.Common.{◌≡◌, None, sym, ap}
use Rattle.scx_sched_world.specs.Ids.{global}
use Rattle.scx_sched_world.specs.Tasks.{fill_front, brought}
use Rattle.scx_sched_world.proofs.Empty.{fill_nobody}
use Rattle.scx_sched_world.proofs.world.World.fill_global.Goals as goal

pub returns-else-has_global-clause-answer : goal.returns-else-has_global-clause-answer
returns-else-has_global-clause-answer c = sym (fill_nobody c.args.self.now global c.args.cpu (c.has_global.ensures.nobody c.if-has_global.false))

pub returns-else-has_global-clause-world : goal.returns-else-has_global-clause-world
returns-else-has_global-clause-world c =
    let none : fill_front c.args.self.now global c.args.cpu ≡ None = fill_nobody c.args.self.now global c.args.cpu (c.has_global.ensures.nobody c.if-has_global.false) in
    ap (λ o. brought o c.args.self.now c.args.cpu) (sym none)
