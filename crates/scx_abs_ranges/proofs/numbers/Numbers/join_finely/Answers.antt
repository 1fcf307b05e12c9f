use Rattle.scx_abs_ranges.proofs.BuiltRanges.{joined_finely, joined_fine_parts}
use Rattle.scx_abs_ranges.proofs.numbers.Numbers.join_finely.Goals as goal

pub invariant_of-result : goal.invariant_of-result
invariant_of-result c =
    let fine = rw (← c.self.view_is, ← c.other.view_is) at c.requires in
    rw (c.min.ensures, c.max.ensures) (joined_fine_parts _ _ c.self.invariant.range c.other.invariant.range fine)

pub returns : goal.returns
returns c =
    let fine = rw (← c.self.view_is, ← c.other.view_is) at c.requires in
    rw (c.min.ensures, c.max.ensures, ← c.self.view_is, ← c.other.view_is) (joined_finely _ _ c.self.invariant.range c.other.invariant.range fine)
