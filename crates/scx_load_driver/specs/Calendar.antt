-- A calendar: the day of each task that is to wake.
use Rattle.std.specs.Prelude.{◌≡◌, ℕ, ◌+◌, ◌*◌, ◌%◌, ◌≤◌, ◌<◌, min, true, List, length, slice_index, slice_index_or, slice_set}
use Rattle.scx_load_driver.specs.declared.calendar.Calendar.{Calendar}
use Rattle.scx_load_driver.specs.Sets.{is_there}

-- the place of a task that wakes in that millisecond
abbrev pub spot : ℕ → ℕ → ℕ
spot ms t = ms % 256 * 1024 + t

-- a millisecond before which no task of this one's day wakes
abbrev pub soonest_of : Calendar → ℕ → ℕ
soonest_of calendar ms = slice_index_or calendar.soonest (ms % 256) 0

-- the task is at the day of that millisecond, and the day isn't taken for quiet then
abbrev pub IsNoted : Calendar → ℕ → ℕ → Type 0
IsNoted calendar t ms = (is_there calendar.there (spot ms t) ≡ true) × (soonest_of calendar ms ≤ ms)

-- there is each day, and room for each task on it
pub record IsWhole (calendar : Calendar) : Type 0 where
  pub days : length calendar.soonest ≡ 256
  pub spots : length calendar.there ≡ 262144

-- each task below a number that wakes from that millisecond on is noted
abbrev pub AreNotedBelow : ℕ → List ℕ → ℕ → Calendar → Type 0
AreNotedBelow n due from calendar =
    (t : ℕ) → t < n → from ≤ slice_index due t → IsNoted calendar t (slice_index due t)

-- each task that wakes from that millisecond on is noted
abbrev pub AreNoted : List ℕ → ℕ → Calendar → Type 0
AreNoted due from calendar = AreNotedBelow (length due) due from calendar

-- the task wakes in that millisecond
abbrev pub with_task : Calendar → ℕ → ℕ → Calendar
with_task calendar t ms = record {
  soonest = slice_set calendar.soonest (ms % 256) (min (soonest_of calendar ms) ms);
  there = slice_set calendar.there (spot ms t) true;
}
