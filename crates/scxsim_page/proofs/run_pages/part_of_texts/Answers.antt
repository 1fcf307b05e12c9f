use Rattle.scxsim_page.proofs.Refusing.{none_of}
use Rattle.scxsim_page.proofs.run_pages.part_of_texts.Goals as goal

pub returns : goal.returns
returns g c = none_of c.fitting.result _ _ _ _ _ _ c.in_ok-part.ensures.run c.in_ok-part.ensures.window (rw c.is_some.ensures at c.fitting.ensures.refused)
