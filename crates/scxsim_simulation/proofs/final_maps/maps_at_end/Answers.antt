use Rattle.std.proofs.Common.{refl}
use Rattle.scxsim_simulation.proofs.final_maps.maps_at_end.Goals as goal

pub returns-clause-done : goal.returns-clause-done
returns-clause-done g c =
    let found = c.in_ok-text.ensures.text in
    (refl, found.0, found.1, found.2, rw (c.as_bytes.ensures.value, c.as_str.ensures.value, found.3) at c.in_ok-write_all.ensures.ok)

pub returns-in_err-write_all-clause-cut : goal.returns-in_err-write_all-clause-cut
returns-in_err-write_all-clause-cut g c = λ _.
    let found = c.in_ok-text.ensures.text in
    (found.0, found.1, found.2, rw (c.as_bytes.ensures.value, c.as_str.ensures.value, found.3) at c.in_err-write_all.ensures.err)
