use Rattle.std.proofs.Common.{refl}
use Rattle.scx_abs_ranges.proofs.BuiltRanges.{negative_range}
use Rattle.scx_abs_ranges.proofs.numbers.Numbers.negated.Goals as goal

pub of-requires : goal.of-requires
of-requires c = rw c.negated.ensures (negative_range c.args.width c.range.result c.range.ensures.range)

pub returns : goal.returns
returns c = rw (c.of.ensures, c.negated.ensures, c.range.ensures.same) refl
