use Rattle.std.proofs.Common.{refl}
use Rattle.scx_abs_ranges.proofs.BuiltRanges.{joined_range}
use Rattle.scx_abs_ranges.proofs.numbers.Numbers.join.Goals as goal

pub of-requires : goal.of-requires
of-requires c = rw c.join.ensures (joined_range c.range.result c.range-else-is_fine-2.result c.range.ensures.range c.range-else-is_fine-2.ensures.range)

pub returns-then-is_fine-2 : goal.returns-then-is_fine-2
returns-then-is_fine-2 c = c.join_finely.ensures

pub returns-else-is_fine-2 : goal.returns-else-is_fine-2
returns-else-is_fine-2 c = rw (c.of.ensures, c.join.ensures, c.range.ensures.same, c.range-else-is_fine-2.ensures.same) refl
