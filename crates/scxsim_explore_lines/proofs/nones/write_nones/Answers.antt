use Rattle.scxsim_explore_lines.proofs.Written.{three_on}
use Rattle.scxsim_explore_lines.proofs.nones.write_nones.Goals as goal

pub returns-clause-ok : goal.returns-clause-ok
returns-clause-ok g c =
    let first = rw c.named_of.ensures at c.in_ok-write_sorts.ensures.ok in
    let last = rw c.again_text.ensures at c.write_text.ensures.ok in
    three_on c.write_text.result _ _ _ _ _ _ _ first c.in_ok-write_overtaken.ensures.ok last
