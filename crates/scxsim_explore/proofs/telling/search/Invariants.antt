use Rattle.std.specs.Prelude.{◌≡◌}
use Rattle.scxsim_explore.proofs.telling.search.Given as goal

-- the bounds are the same
abbrev pub invariant-loop-count : goal.invariant-loop-count
invariant-loop-count g l = l.course.bounds ≡ l.initial.course.bounds
