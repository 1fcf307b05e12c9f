use Rattle.std.proofs.Common.{sym, ◌∙◌, arith}
use Rattle.scx_abs_ranges.proofs.BuiltRanges.{advanced_within}
use Rattle.scx_abs_ranges.proofs.offsets.Offsets.advanced.Goals as goal

pub of-requires-clause-range : goal.of-requires-clause-range
of-requires-clause-range c =
    (advanced_within c.args.value_size c.range.result c.range-2.result c.in-Some.range c.range.ensures.range c.range-2.ensures.range (omega (arith, c.ranges.value_size.fits))
    (sym c.advanced.ensures ∙ c.in-Some.is)).0
