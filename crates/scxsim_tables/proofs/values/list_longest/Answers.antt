use Rattle.std.proofs.Common.{codes, decimal}
use Rattle.scxsim_output.proofs.Pieces.{puts_both}
use Rattle.scxsim_tables.specs.Values.{line, longest_lines}
use Rattle.scxsim_tables.proofs.values.list_longest.Goals as goal

pub returns : goal.returns
unfolding longest_lines
returns c =
    let x = line (codes "task") c.args.name.now (codes "longest_wait_ms") (decimal c.args.task.now.waits.longest) in
    let y = line (codes "task") c.args.name.now (codes "longest_wait_since_ms") (decimal c.args.task.now.waits.longest_since) in
    let one = rw c.longest-longest.ensures at c.list.ensures in
    let two = rw c.longest_since-since.ensures at c.list-2.ensures in
    puts_both c.list-2.new.page c.list.new.page c.args.page.now x y one two
