use Rattle.std.proofs.Common.{codes, decimal}
use Rattle.scxsim_views.specs.Lengths.{percentile}
use Rattle.scxsim_output.proofs.Pieces.{puts_both}
use Rattle.scxsim_tables.specs.Values.{line, half_lines}
use Rattle.scxsim_tables.proofs.wait_values.list_halves.Goals as goal

pub returns : goal.returns
unfolding half_lines
returns c =
    let x = line (codes "task") c.args.name.now (codes "wait_50_percent_ms") (decimal (percentile 50 c.args.waits.now)) in
    let y = line (codes "task") c.args.name.now (codes "wait_90_percent_ms") (decimal (percentile 90 c.args.waits.now)) in
    let one = rw c.percentile-half.ensures at c.list.ensures in
    let two = rw c.percentile-most.ensures at c.list-2.ensures in
    puts_both c.list-2.new.page c.list.new.page c.args.page.now x y one two
