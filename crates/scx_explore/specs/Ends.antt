-- The last level of a search, and its end.
use Rattle.std.specs.Prelude.{◌≡◌, ℕ, ◌≤◌, true, Option, Some, None}
use Rattle.scx_explore_bounds.specs.declared.bounds.Bounds.{Bounds}
use Rattle.scx_explore.specs.declared.progress.Level.{Level}
use Rattle.scx_explore.specs.declared.progress.Progress.{Progress}
use Rattle.scx_explore.specs.declared.progress.Progress.TheVariants as progress
use Rattle.scx_explore.specs.declared.course.End.{End}
use Rattle.scx_explore.specs.declared.course.End.TheVariants.{Ended, At, Full}

-- the depth of the last level: the steps of the longest lists that were all tried
abbrev pub done_of : Option Level → ℕ
done_of None = 0
done_of (Some l) = l.depth

-- no state of the last level is new
abbrev pub HasNoNew : Option Level → Type 0
HasNoNew None = ⊥
HasNoNew (Some l) = l.ended ≡ true

-- the last level after that progress
abbrev pub level_after : Option Level → Progress → Option Level
level_after last progress.Going = last
level_after last (progress.Level l) = Some l
level_after last progress.Full = last

-- A search within the bounds may end so where that is its last level: by itself only where no state
-- of that level is new, and at a depth only where the bounds ask for no greater one.
abbrev pub IsEndOf : Bounds → Option Level → End → Type 0
IsEndOf b last Ended = HasNoNew last
IsEndOf b last (At depth) = (depth ≡ done_of last) × (b.depth ≤ depth)
IsEndOf b last (Full depth) = depth ≡ done_of last
