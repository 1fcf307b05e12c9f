use Rattle.scxsim_page.proofs.Written.{grown_by_four}
use Rattle.scxsim_page.proofs.drafts.Draft.write_rest.Goals as goal

pub returns-clause-ok : goal.returns-clause-ok
returns-clause-ok g c =
    grown_by_four c.write_all-4.result _ _ _ _ _ _ _ _ _ c.in_ok-write_all.ensures.ok c.in_ok-write_all-2.ensures.ok c.in_ok-write_all-3.ensures.ok c.write_all-4.ensures.ok
