use Rattle.scxsim_explore_lines.proofs.Written.{three_on}
use Rattle.scxsim_explore_lines.proofs.found.write_found.Goals as goal

pub returns-clause-ok : goal.returns-clause-ok
returns-clause-ok g c =
    let first = rw c.head_word.ensures at c.in_ok-write_text.ensures.ok in
    three_on c.write_text-2.result _ _ _ _ _ _ _ first c.in_ok-write_length.ensures.ok c.write_text-2.ensures.ok
