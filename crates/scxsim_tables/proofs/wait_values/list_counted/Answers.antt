use Rattle.std.proofs.Common.{decimal, ◌∙◌}
use Rattle.std.proofs.lemmas.Bool.{ne_eqb}
use Rattle.scxsim_output.proofs.Pieces.{puts_both}
use Rattle.scxsim_tables.specs.Values.{line, labels, percentile_lines, counted_lines}
use Rattle.scxsim_tables.proofs.wait_values.list_counted.Goals as goal

pub returns : goal.returns
unfolding counted_lines
returns c =
    let x = line c.args.kind.now c.args.name.now c.args.names.count.now (decimal c.args.lengths.now.count) in
    let one = rw c.count-count.ensures at c.list.ensures in
    let some = ne_eqb c.args.lengths.now.count 0 (λ e. c.if-count-eq0.false (c.count-count.ensures ∙ e)) in
    rw some (puts_both c.list_percentiles.new.page c.list.new.page c.args.page.now x (percentile_lines c.args.kind.now c.args.name.now (labels c.args.names) c.args.lengths.now) one c.list_percentiles.ensures)
