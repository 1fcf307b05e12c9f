use Rattle.std.proofs.Common.{arith, ap, ◌∙◌, ◌<◌, length}
use Rattle.std.proofs.lemmas.List.{length-set}
use Rattle.scx_weights.proofs.Settling.{written_below}
use Rattle.scx_weights.proofs.usage.Usages.settle.Goals as goal

pub returns-then-self-clause-settled : goal.returns-then-self-clause-settled
returns-then-self-clause-settled c g lt = c.requires.usages.settled c.if-self.true g lt

pub settle_group-requires-clause-room : goal.settle_group-requires-clause-room
settle_group-requires-clause-room c g lt = omega (arith, c.loop-home.invariant.counted g lt, c.requires.usages.room g lt)

pub loop-home-preserved : goal.loop-home-preserved
loop-home-preserved c =
    let before = c.loop-home in
    let now = c.settle_group.new.self in
    let known : before.home < length before.self.pending.items = omega (arith, before.invariant.pending_length, c.loop-home-test.true) in
    record {
      beat = c.settle_group.ensures.beat ∙ before.invariant.beat;
      since = c.settle_group.ensures.since ∙ before.invariant.since;
      next = c.settle_group.ensures.next ∙ before.invariant.next;
      limited = c.settle_group.ensures.limited ∙ before.invariant.limited;
      used_length = c.settle_group.ensures.used_length;
      pending_length = ap length c.settle_group.ensures.settled ∙ length-set before.self.pending.items before.home 0 ∙ before.invariant.pending_length;
      settled = written_below before.self.pending.items now.pending.items before.home known c.settle_group.ensures.settled before.invariant.settled;
      counted = λ g lt. c.settle_group.ensures.counted g lt ∙ before.invariant.counted g lt;
    }

pub returns-clause-settled : goal.returns-clause-settled
returns-clause-settled c g lt = c.loop-home.invariant.settled g (omega (arith, lt))
