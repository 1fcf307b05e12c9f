use Rattle.std.proofs.Common.{sym, subst, ◌∙◌, arith}
use Rattle.scx_sched_world.specs.World.{WorldState}
use Rattle.scx_sched_world.specs.Kept.{HoldPending}
use Rattle.scx_sched_world.proofs.Settled.{lowest_set, found, rest_asked, past_each}
use Rattle.scx_sched_world.proofs.world.World.+pending_among.Goals as goal

pub returns-then-is_pending-clause-answer : goal.returns-then-is_pending-clause-answer
returns-then-is_pending-clause-answer t c =
    found c.args.asked c.in-Some.cpu c.args.self.now (omega (arith, c.ranges.asked.fits)) (sym c.lowest_bit.ensures ∙ c.in-Some.is)
    (sym c.has_cpu.ensures ∙ c.if-not-has_cpu.false) (sym c.is_pending.ensures ∙ c.if-is_pending.true) c.requires

pub settle_all-requires : goal.settle_all-requires
settle_all-requires t c =
    past_each c.args.asked c.in-Some.cpu c.args.self.now (omega (arith, c.ranges.asked.fits)) (sym c.lowest_bit.ensures ∙ c.in-Some.is)
    (sym c.has_cpu.ensures ∙ c.if-not-has_cpu.true) c.requires

pub without-requires-clause-set : goal.without-requires-clause-set
without-requires-clause-set t c = (lowest_set c.args.asked c.in-Some.cpu (omega (arith, c.ranges.asked.fits)) (sym c.lowest_bit.ensures ∙ c.in-Some.is)).1.1.1

pub pending_among-requires : goal.pending_among-requires
pending_among-requires t c = (
  omega (arith, c.decreases, c.without.ensures.less),
  subst (λ (w : WorldState). HoldPending c.without.result w) (sym c.settle.ensures)
      (rest_asked c.args.asked c.without.result c.in-Some.cpu c.args.self.now (omega (arith, c.ranges.asked.fits)) (sym c.is_pending.ensures ∙ c.if-is_pending.false) c.without.ensures.others c.requires),
)
