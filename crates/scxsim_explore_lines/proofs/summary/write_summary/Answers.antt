use Rattle.scxsim_explore_lines.proofs.Written.{three_on}
use Rattle.scxsim_explore_lines.proofs.summary.write_summary.Goals as goal

pub returns-clause-ok : goal.returns-clause-ok
returns-clause-ok g c =
    three_on c.write_text.result _ _ _ _ _ _ _ c.in_ok-write_answers.ensures.ok c.in_ok-write_nones.ensures.ok c.write_text.ensures.ok
