use Rattle.scxsim_pictures.proofs.Growing.{written_in_order}
use Rattle.scxsim_pictures.proofs.note_lines.write_note_lines.Goals as goal

pub returns-clause-ok : goal.returns-clause-ok
returns-clause-ok g c =
    written_in_order c.write_place-4.result _ _ _ _ _ _ _ _ _ c.in_ok-write_place.ensures.ok c.in_ok-write_place-2.ensures.ok c.in_ok-write_place-3.ensures.ok c.write_place-4.ensures.ok
