use Rattle.std.proofs.Common.{refl}
use Rattle.scxsim_tables.proofs.telling.stats.Goals as goal

pub returns-clause-done : goal.returns-clause-done
returns-clause-done g c =
    let found = c.in_ok-rows.ensures.rows in
    (refl, found.0, found.1, found.2, rw (c.as_str.ensures.value, found.3) at c.in_ok-write_rows.ensures.ok)

pub returns-in_err-write_rows-clause-cut : goal.returns-in_err-write_rows-clause-cut
returns-in_err-write_rows-clause-cut g c = λ _.
    let found = c.in_ok-rows.ensures.rows in
    (found.0, found.1, found.2, rw (c.as_str.ensures.value, found.3) at c.in_err-write_rows.ensures.err)
