use Rattle.std.proofs.Common.{refl}
use Rattle.scxsim_tables.proofs.telling.write_values.Goals as goal

pub returns-clause-done : goal.returns-clause-done
returns-clause-done g c =
    (refl, rw (c.as_str.ensures.value, c.in_ok-rows.ensures.rows) at c.in_ok-write_rows.ensures.ok)

pub returns-in_err-write_rows-clause-cut : goal.returns-in_err-write_rows-clause-cut
returns-in_err-write_rows-clause-cut g c = λ _.
    rw (c.as_str.ensures.value, c.in_ok-rows.ensures.rows) at c.in_err-write_rows.ensures.err
