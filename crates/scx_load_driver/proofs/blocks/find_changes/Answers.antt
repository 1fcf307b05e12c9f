use Rattle.std.proofs.Common.{rules, sym, ◌∙◌, arith}
use Rattle.scx_load_driver.proofs.Coming.{none_past, all_found, found_until}
use Rattle.scx_load_driver.proofs.blocks.find_changes.Goals as goal

pub loop-index-init : goal.loop-index-init
loop-index-init c = record {
  events = c.requires.empty ∙ sym (none_past c.args.changes.now c.args.now c.args.coming c.args.now c.requires.coming);
  few = search rules;
  past = λ i l. omega (arith, c.requires.coming.past i l);
  room = c.requires.room;
}

pub returns-then-change-now-clause-events : goal.returns-then-change-now-clause-events
returns-then-change-now-clause-events c =
    c.loop-index.invariant.events
    ∙ sym (all_found c.args.changes.now c.args.now c.loop-index.index
    (found_until c.args.changes.now c.args.now c.args.coming c.loop-index.index c.requires.ordered c.requires.coming
    (omega (arith, c.loop-index.auto.index)) (omega (arith, c.loop-index-test.true)) c.loop-index.invariant.past
    (λ e. absurd (omega (arith, e, c.if-change-now.true)))))
