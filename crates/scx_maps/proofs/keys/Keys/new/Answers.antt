use Rattle.std.proofs.Common.{◌≡◌, arith, rules}
use Rattle.scx_maps.proofs.Sound.{unheld}
use Rattle.scx_maps.proofs.Kept.{new_kept}
use Rattle.scx_maps.proofs.keys.Keys.new.Goals as goal

pub invariant_of-result : goal.invariant_of-result
invariant_of-result c =
    let held : c.in_ok-held.held.items ≡ unheld c.args.slots = search rules in
    rw (held, c.in_ok-freed.ensures.items)
    (new_kept c.args.slots _ _ (omega (arith, c.in_ok-freed.ensures.capacity)) (omega (arith, c.in_ok-index.ensures.len, c.in_ok-index.ensures.spare)) (omega (arith, c.ranges.slots.fits)))
