use Rattle.std.proofs.Common.{ℕ, List, length, ap, arith, length-take-le}
use Rattle.scx_maps.proofs.keys.copy_slots.Goals as goal

pub push_reserved-requires : goal.push_reserved-requires
push_reserved-requires c =
    let long = length-take-le c.loop-slot.slot-index c.args.others.now (omega (arith, c.loop-slot-test.true)) in
    omega (arith, c.loop-slot.slots.ok.0, ap (λ (xs : List ℕ). length xs) c.loop-slot.invariant.items, long, c.loop-slot.invariant.capacity, c.requires, c.loop-slot-test.true)
