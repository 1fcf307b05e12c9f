use Rattle.std.proofs.Common.{codes, decimal}
use Rattle.scxsim_views.specs.Lengths.{percentile}
use Rattle.scxsim_output.proofs.Pieces.{puts_both}
use Rattle.scxsim_tables.specs.Values.{line, most_lines, percent_lines}
use Rattle.scxsim_tables.proofs.values.list_percents.Goals as goal

pub returns : goal.returns
unfolding percent_lines
returns c =
    let x = line (codes "task") c.args.name.now (codes "burst_50_percent_ms") (decimal (percentile 50 c.args.bursts.now.lengths)) in
    let y = most_lines c.args.name.now c.args.bursts.now in
    let one = rw c.percentile-half.ensures at c.list.ensures in
    puts_both c.list_most.new.page c.list.new.page c.args.page.now x y one c.list_most.ensures
