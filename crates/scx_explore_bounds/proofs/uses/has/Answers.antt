use Rattle.std.proofs.Common.{◌≡◌, length, sym, ap, ◌∙◌, arith}
use Rattle.scx_isa_semantics.specs.Code.{at}
use Rattle.scx_verify_explain.specs.Listings.{known_at}
use Rattle.scx_explore_bounds.specs.Uses.{any_below, is_use}
use Rattle.scx_explore_bounds.proofs.Slots.{any_below_at}
use Rattle.scx_explore_bounds.proofs.uses.has.Goals as goal

pub returns-then-is_use : goal.returns-then-is_use
returns-then-is_use c =
    sym
    (any_below_at (length c.args.listing.now.code.items) c.loop-slot.slot
    (λ s. is_use c.args.such (at c.args.listing.now.code.items s) (known_at c.args.listing.now s))
    (omega (arith, c.loop-slot-test.true, c.slots-slot-end.ensures))
    (ap (λ i. is_use c.args.such i (known_at c.args.listing.now c.loop-slot.slot)) (sym c.insn.ensures)
    ∙ ap (λ s. is_use c.args.such c.insn.result s) (sym c.state.ensures)
    ∙ sym c.is_use.ensures ∙ c.if-is_use.true))

pub returns : goal.returns
returns c =
    let end : c.loop-slot.slot ≡ length c.args.listing.now.code.items =
    omega (arith, c.loop-slot-test.false, c.slots-slot-end.ensures, c.loop-slot.auto.slot-end) in
    sym
    (ap (λ n. any_below n (λ s. is_use c.args.such (at c.args.listing.now.code.items s) (known_at c.args.listing.now s))) (sym end)
    ∙ c.loop-slot.invariant)
