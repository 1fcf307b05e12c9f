use Rattle.std.proofs.Common.{refl}
use Rattle.scx_abs_ranges.proofs.BuiltRanges.{copied_range}
use Rattle.scx_abs_ranges.proofs.numbers.Numbers.copied.Goals as goal

pub of-requires : goal.of-requires
of-requires c = rw c.copied.ensures (copied_range c.args.width c.range.result c.range.ensures.range)

pub returns : goal.returns
returns c = rw (c.of.ensures, c.copied.ensures, c.range.ensures.same) refl
