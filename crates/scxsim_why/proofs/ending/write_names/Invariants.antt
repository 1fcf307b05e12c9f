use denote.Text.{Utf8}
use denote.Shadow.{shadow}
use Rattle.scxsim_why.proofs.ending.write_names.Given as goal

-- the words before the next name are text
abbrev pub invariant-loop-task : goal.invariant-loop-task
invariant-loop-task l =
    (goal.iterator-loop-task).can_next l.task-iterator × (goal.iterator-loop-task).is_finite l.task-iterator
    × shadow (Utf8 l.before)
