use Rattle.std.proofs.Common.{false, sym, ◌∙◌}
use Rattle.scx_load_driver.specs.Driver.{AreUnwatched}
use Rattle.scx_load_driver.proofs.Quiet.{no_sleeps, same_due, same_watched}
use Rattle.scx_load_driver.proofs.blocks.add_sleeps.Goals as goal

pub returns-else-some-clause-events : goal.returns-else-some-clause-events
returns-else-some-clause-events c =
    let none : AreUnwatched false c.args.watched.now = λ e t. c.requires.unwatched c.if-some.false t in
    c.requires.empty ∙ sym (no_sleeps c.args.timings.now c.args.ran.now c.args.watched.now c.args.sim.now.state.world none)

pub returns-else-some-clause-due : goal.returns-else-some-clause-due
returns-else-some-clause-due c =
    let none : AreUnwatched false c.args.watched.now = λ e t. c.requires.unwatched c.if-some.false t in
    sym (same_due c.args.timings.now c.args.ran.now c.args.watched.now c.args.sim.now.state.world none c.args.due.now c.args.now)

pub returns-else-some-clause-watched : goal.returns-else-some-clause-watched
returns-else-some-clause-watched c =
    let none : AreUnwatched false c.args.watched.now = λ e t. c.requires.unwatched c.if-some.false t in
    sym (same_watched c.args.timings.now c.args.ran.now c.args.watched.now c.args.sim.now.state.world none)
