use Rattle.scxsim_explain.proofs.Listing.{grown_below}
use Rattle.scxsim_explain.proofs.writing.write_program.Goals as goal

pub returns-clause-ok : goal.returns-clause-ok
returns-clause-ok g c =
    let first = rw (c.as_bytes.ensures.value, c.as_str.ensures.value, c.verdict_line-first.ensures, c.context.ensures) at c.in_ok-write_all.ensures.ok in
    grown_below c.write_listing.result _ _ _ _ first c.write_listing.ensures.ok
