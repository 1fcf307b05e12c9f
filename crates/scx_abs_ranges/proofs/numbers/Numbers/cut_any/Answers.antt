use Rattle.std.proofs.Common.{sym, ◌∙◌}
use Rattle.scx_abs_ranges.proofs.BuiltRanges.{cut_range}
use Rattle.scx_abs_ranges.proofs.numbers.Numbers.cut_any.Goals as goal

pub of-requires : goal.of-requires
of-requires c = cut_range c.args.comparison c.args.answer c.args.c c.range.result c.in-Some.range c.range.ensures.range (sym c.cut.ensures ∙ c.in-Some.is)
