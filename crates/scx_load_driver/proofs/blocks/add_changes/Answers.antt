use Rattle.std.proofs.Common.{◌+◌, sym, ◌∙◌, arith}
use Rattle.scx_load_driver.proofs.Calm.{no_changes}
use Rattle.scx_load_driver.proofs.Coming.{later_from}
use Rattle.scx_load_driver.proofs.blocks.add_changes.Goals as goal

pub returns-then-now-next-clause-events : goal.returns-then-now-next-clause-events
returns-then-now-next-clause-events c =
    c.requires.empty
    ∙ sym (no_changes c.args.changes.now c.args.now c.args.next (later_from c.args.changes.now c.args.now _ c.args.next c.requires.coming) (omega (arith, c.if-now-next.true)))

pub returns-clause-coming : goal.returns-clause-coming
returns-clause-coming c = c.next_change.ensures (c.args.now + 1) (omega (arith, c.requires.early)) c.find_changes.ensures.coming
