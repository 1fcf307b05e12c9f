use Rattle.std.proofs.Common.{refl}
use Rattle.scx_abs_ranges.proofs.BuiltRanges.{swap_range}
use Rattle.scx_abs_ranges.proofs.numbers.Numbers.byte_swapped.Goals as goal

pub of-requires : goal.of-requires
of-requires c = rw c.byte_swapped.ensures (swap_range c.args.order c.args.width c.range.result c.range.ensures.range)

pub returns : goal.returns
returns c = rw (c.of.ensures, c.byte_swapped.ensures, c.range.ensures.same) refl
