use Rattle.std.proofs.Common.{sym, ◌∙◌, arith}
use Rattle.scx_abs_ranges.proofs.BuiltRanges.{moved_within}
use Rattle.scx_abs_ranges.proofs.offsets.Offsets.moved.Goals as goal

pub of-requires-clause-range : goal.of-requires-clause-range
of-requires-clause-range c =
    (moved_within c.args.value_size c.range.result c.in-Some.range _ c.range.ensures.range (omega (arith, c.ranges.value_size.fits)) (sym c.moved.ensures ∙ c.in-Some.is)).0
