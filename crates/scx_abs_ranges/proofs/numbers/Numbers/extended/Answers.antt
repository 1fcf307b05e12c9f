use Rattle.std.proofs.Common.{refl}
use Rattle.scx_abs_ranges.proofs.BuiltRanges.{extension_range}
use Rattle.scx_abs_ranges.proofs.numbers.Numbers.extended.Goals as goal

pub of-requires : goal.of-requires
of-requires c = rw c.extended.ensures (extension_range c.args.extension c.range.result c.range.ensures.range)

pub returns : goal.returns
returns c = rw (c.of.ensures, c.extended.ensures, c.range.ensures.same) refl
