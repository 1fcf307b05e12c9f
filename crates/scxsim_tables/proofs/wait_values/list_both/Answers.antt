use Rattle.std.proofs.Common.{codes}
use Rattle.scxsim_output.proofs.Pieces.{puts_both}
use Rattle.scxsim_tables.specs.Values.{group_wait_labels, group_latency_labels, counted_lines}
use Rattle.scxsim_tables.proofs.wait_values.list_both.Goals as goal

pub returns : goal.returns
returns c =
    puts_both c.list_counted-2.new.page c.list_counted.new.page c.args.page.now (counted_lines (codes "group") c.args.name.now group_wait_labels c.args.waits.now.waits)
    (counted_lines (codes "group") c.args.name.now group_latency_labels c.args.waits.now.latencies) c.list_counted.ensures c.list_counted-2.ensures
