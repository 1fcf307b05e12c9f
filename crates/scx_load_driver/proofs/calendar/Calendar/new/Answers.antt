use Rattle.std.proofs.Common.{◌+◌, ◌<◌, get_or, sym, subst, arith}
use Rattle.scx_load_driver.specs.Calendar.{IsWhole, AreNotedBelow}
use Rattle.scx_load_driver.proofs.Days.{whole_with, noted_more}
use Rattle.scx_load_driver.proofs.calendar.Calendar.new.Goals as goal

pub loop-task-init : goal.loop-task-init
loop-task-init c = record { whole = c.in_ok-calendar.ensures; noted = λ t l y. absurd (omega (arith, l)) }

pub loop-task-preserved : goal.loop-task-preserved
loop-task-preserved c =
    let k = c.loop-task.task in
    let inv = c.loop-task.invariant in
    let few : k < 1024 = omega (arith, c.loop-task-test.true, c.requires) in
    let due = c.args.due.now in
    record {
      whole = subst IsWhole (sym c.insert.ensures) (whole_with c.loop-task.calendar k (get_or due k 0) inv.whole);
      noted = subst (AreNotedBelow (k + 1) due 0) (sym c.insert.ensures) (noted_more due k 0 c.loop-task.calendar few inv.whole inv.noted);
    }

pub returns : goal.returns
returns c =
    let inv = c.loop-task.invariant in
    record { whole = inv.whole; noted = λ t l y. inv.noted t (omega (arith, l, c.loop-task-test.false)) y }
