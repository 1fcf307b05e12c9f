use Rattle.scxsim_pictures.proofs.Growing.{written_between}
use Rattle.scxsim_pictures.proofs.sketches.write_sketch.Goals as goal

pub returns-clause-ok : goal.returns-clause-ok
returns-clause-ok g c =
    let head = rw c.as_bytes.ensures.value at c.in_ok-write_all.ensures.ok in
    let end = rw c.as_bytes-3.ensures.value at c.write_all-3.ensures.ok in
    written_between c.write_all-3.result _ _ _ _ _ _ _ _ _ head c.in_ok-write_all-2.ensures.ok c.in_ok-write_notes.ensures.ok c.in_ok-write_ends.ensures.ok end
