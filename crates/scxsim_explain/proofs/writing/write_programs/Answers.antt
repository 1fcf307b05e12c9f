use Rattle.std.proofs.Common.{sym, subst, map, List, ℕ}
use Rattle.std.specs.Prelude.{OnOk}
use Rattle.std.specs.Io.KnownBytes.{Appends}
use Rattle.scxsim_explain.specs.Explained.{first_line}
use Rattle.scxsim_explain.specs.Listed.{IsListed}
use Rattle.scxsim_explain.proofs.Listing.{listed_first}
use Rattle.scxsim_explain.proofs.writing.write_programs.Goals as goal

pub returns-clause-ok : goal.returns-clause-ok
returns-clause-ok g c =
    let parts = c.in-Some.ensures.cases in
    let its = c.in_ok-write_program.ensures.ok in
    let listed = listed_first c.write_rest.result _ _ _ _ its.0 _ its.1 c.write_rest.ensures.ok in
    subst (λ programs. OnOk c.write_rest.result ((text : List ℕ) × IsListed (map first_line programs) text
    × Appends (g.W.Out.contents c.args.out.now) (g.W.Out.contents c.write_rest.new.out) text)) (sym parts.0) listed
