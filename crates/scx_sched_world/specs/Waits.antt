-- Who has waited for longer than a policy may let a task wait.
use Rattle.std.specs.Prelude.{ℕ, ◌<◌, ◌≤◌, length, Option, position}
use Rattle.scx_sched_tasks.specs.Waits.{is_overdue}
use Rattle.scx_sched_world.specs.World.{WorldState, wait}

-- of those who have the one of the least number
abbrev pub first_overdue : WorldState → ℕ → Option ℕ
first_overdue w limit = position (is_overdue w.clock limit) w.tasks

-- that it is the one, in other words
pub record IsFirstOverdue (w : WorldState) (limit t : ℕ) : Type 0 where
  pub known : t < length w.tasks
  pub over : limit < wait w t
  pub least : (u : ℕ) → u < t → wait w u ≤ limit
