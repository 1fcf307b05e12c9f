use Rattle.std.proofs.Common.{◌++◌, decimal}
use Rattle.scxsim_views.specs.Lengths.{percentile}
use Rattle.scxsim_output.proofs.Pieces.{puts_both}
use Rattle.scxsim_tables.specs.Values.{line, percentile_lines}
use Rattle.scxsim_tables.proofs.wait_values.list_percentiles.Goals as goal

pub returns : goal.returns
unfolding percentile_lines
returns c =
    let x = line c.args.kind.now c.args.name.now c.args.names.half.now (decimal (percentile 50 c.args.lengths.now)) in
    let y = line c.args.kind.now c.args.name.now c.args.names.most.now (decimal (percentile 90 c.args.lengths.now)) in
    let z = line c.args.kind.now c.args.name.now c.args.names.nearly_all.now (decimal (percentile 99 c.args.lengths.now)) in
    let w = line c.args.kind.now c.args.name.now c.args.names.longest.now (decimal c.args.lengths.now.longest) in
    let one = rw c.percentile-half.ensures at c.list.ensures in
    let two = rw c.percentile-most.ensures at c.list-2.ensures in
    let three = rw c.percentile-nearly_all.ensures at c.list-3.ensures in
    let four = rw c.longest-longest.ensures at c.list-4.ensures in
    let first = puts_both c.list-2.new.page c.list.new.page c.args.page.now x y one two in
    let more = puts_both c.list-3.new.page c.list-2.new.page c.args.page.now (x ++ y) z first three in
    puts_both c.list-4.new.page c.list-3.new.page c.args.page.now (x ++ y ++ z) w more four
