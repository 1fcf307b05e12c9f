use Rattle.std.proofs.Common.{arith, sym, ◌∙◌}
use Rattle.scx_verify.proofs.Visits.{visited_none}
use Rattle.scx_verify_explain.proofs.Ends.{ends_behind, ends_at}
use Rattle.scx_verify_explain.proofs.listing.pass_of.Goals as goal

pub loop-slot-init : goal.loop-slot-init
loop-slot-init c =
    rw c.in_ok-states.ensures
    (visited_none c.args.context.now c.args.program.now c.slots-slots.result (omega (arith, c.slots-slots.ensures.program.some, c.slots-slots.ensures.slots)) c.slots-slots.ensures.slots)

pub returns-then-is_err : goal.returns-then-is_err
returns-then-is_err c =
    ends_at c.args.context.now c.args.program.now c.loop-slot.slot c.loop-slot.states.items c.visit.new.states.items c.visit.result c.requires c.loop-slot.invariant
    (sym c.is_err.ensures.value ∙ c.if-is_err.true) c.visit.ensures.refused c.visit.ensures.kept

pub returns : goal.returns
returns c =
    ends_behind c.args.context.now c.args.program.now c.loop-slot.slot c.slots-slots.result c.loop-slot.states.items c.requires c.slots-slots.ensures.slots
    (omega (arith, c.loop-slot-test.false)) c.loop-slot.invariant
