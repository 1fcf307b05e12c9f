use Rattle.std.proofs.Common.{refl}
use Rattle.scx_abs_ranges.proofs.BuiltRanges.{computed_range}
use Rattle.scx_abs_ranges.proofs.numbers.Numbers.computed.Goals as goal

pub of-requires : goal.of-requires
of-requires c = rw c.computed.ensures (computed_range c.args.width c.args.operation c.range.result c.range-2.result c.range.ensures.range c.range-2.ensures.range)

pub returns : goal.returns
returns c = rw (c.of.ensures, c.computed.ensures, c.range.ensures.same, c.range-2.ensures.same) refl
