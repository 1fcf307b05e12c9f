use Rattle.std.proofs.Common.{codes, decimal}
use Rattle.scxsim_views.specs.Lengths.{percentile}
use Rattle.scxsim_output.proofs.Pieces.{puts_both}
use Rattle.scxsim_tables.specs.Values.{line, most_lines}
use Rattle.scxsim_tables.proofs.values.list_most.Goals as goal

pub returns : goal.returns
unfolding most_lines
returns c =
    let x = line (codes "task") c.args.name.now (codes "burst_90_percent_ms") (decimal (percentile 90 c.args.bursts.now.lengths)) in
    let y = line (codes "task") c.args.name.now (codes "burst_99_percent_ms") (decimal (percentile 99 c.args.bursts.now.lengths)) in
    let one = rw c.percentile-most.ensures at c.list.ensures in
    let two = rw c.percentile-nearly_all.ensures at c.list-2.ensures in
    puts_both c.list-2.new.page c.list.new.page c.args.page.now x y one two
