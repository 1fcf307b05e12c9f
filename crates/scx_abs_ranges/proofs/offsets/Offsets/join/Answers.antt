use Rattle.std.proofs.Common.{refl}
use Rattle.scx_abs_ranges.proofs.BuiltRanges.{joined_range}
use Rattle.scx_abs_ranges.proofs.offsets.Offsets.join.Goals as goal

pub of-requires-clause-range : goal.of-requires-clause-range
of-requires-clause-range c = rw c.join.ensures (joined_range c.range.result c.range-2.result c.range.ensures.range c.range-2.ensures.range)

pub returns : goal.returns
returns c = rw (c.of.ensures, c.join.ensures, c.range.ensures.same, c.range-2.ensures.same) refl
