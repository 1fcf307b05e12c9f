use Rattle.std.proofs.Common.{◌<◌, sym, ◌∙◌, arith}
use Rattle.scx_load_driver.specs.Calendar.{soonest_of}
use Rattle.scx_load_driver.proofs.Days.{noted_later}
use Rattle.scx_load_driver.proofs.Waking.{no_wakes, same_ran}
use Rattle.scx_load_driver.proofs.blocks.add_wakes.Goals as goal

pub returns-then-now-soonest-clause-events : goal.returns-then-now-soonest-clause-events
returns-then-now-soonest-clause-events c =
    let soon : c.args.now < soonest_of c.args.calendar.now c.args.now = omega (arith, c.soonest_wake-soonest.ensures, c.if-now-soonest.true) in
    c.requires.empty ∙ sym (no_wakes c.args.due.now c.args.now c.args.calendar.now c.args.sim.now.state.world c.requires.noted soon)

pub returns-then-now-soonest-clause-ran : goal.returns-then-now-soonest-clause-ran
returns-then-now-soonest-clause-ran c =
    let soon : c.args.now < soonest_of c.args.calendar.now c.args.now = omega (arith, c.soonest_wake-soonest.ensures, c.if-now-soonest.true) in
    sym (same_ran c.args.due.now c.args.now c.args.calendar.now c.args.sim.now.state.world c.requires.noted soon c.args.ran.now)

pub returns-then-now-soonest-clause-noted : goal.returns-then-now-soonest-clause-noted
returns-then-now-soonest-clause-noted c = noted_later c.args.due.now c.args.now c.args.calendar.now c.requires.noted
