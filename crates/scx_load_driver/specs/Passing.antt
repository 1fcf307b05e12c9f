-- Milliseconds in which nothing happens but that tasks run, as a driver knows of them.
use Rattle.std.specs.Prelude.{◌≡◌, ℕ, ◌+◌, ◌<◌, ◌≤◌, List, slice_index, Some}
use Rattle.scx_sched_world.specs.World.{WorldState, task_at, running}
use Rattle.scx_load_driver.specs.declared.calendar.Calendar.{Calendar}
use Rattle.scx_load_driver.specs.Calendar.{soonest_of, AreNoted}
use Rattle.scx_load_driver.specs.Changes.{AreLater}
use Rattle.scx_load_driver.specs.Driver.{DriverState}

-- each task that runs does so for that long before it is past its last tick
abbrev pub RunsLast : ℕ → List ℕ → WorldState → Type 0
RunsLast ns last w =
    (c t : ℕ) → running w c ≡ Some t → (task_at w t).run_ns + ns ≤ slice_index last t

-- in that millisecond no weight changes and no task wakes
pub record IsCalm (d : DriverState) (m next : ℕ) (calendar : Calendar) : Type 0 where
  pub later : AreLater d.plan.changes m next
  pub change : m < next
  pub noted : AreNoted d.memory.due m calendar
  pub wake : m < soonest_of calendar m
