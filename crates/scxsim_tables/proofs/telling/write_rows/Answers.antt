use Rattle.std.proofs.Common.{rules}
use Rattle.scxsim_output.proofs.Beginnings.{beginning_of_more}
use Rattle.scxsim_tables.proofs.Rows.{cut_in_second}
use Rattle.scxsim_tables.proofs.telling.write_rows.Goals as goal

pub returns-in_err-write_all-clause-err : goal.returns-in_err-write_all-clause-err
returns-in_err-write_all-clause-err g c =
    let head = rw c.as_bytes.ensures.value at c.in_err-write_all.ensures.err in
    let cut = beginning_of_more (g.W.Out.contents c.args.out.now) _ c.args.head.now c.args.rows.now head in
    search rules

pub returns-clause-err : goal.returns-clause-err
returns-clause-err g c =
    let head = rw c.as_bytes.ensures.value at c.in_ok-write_all.ensures.ok in
    let rows = rw c.as_bytes-2.ensures.value at c.write_all-2.ensures.err in
    cut_in_second c.write_all-2.result _ _ _ c.args.head.now c.args.rows.now head rows
