-- What the fields of `Tasks` mean, and what always holds of them.
use Rattle.std.specs.Prelude.{◌≡◌, ℕ, ◌/◌, ◌<◌, ◌≤◌, min, List, length, Option, Some, None, slice_index_or, slice_set}
use Rattle.scx_sched_tasks.specs.declared.task.Task.{Task}
use Rattle.scx_sched_tasks.specs.declared.watch.Watch.{Watch}
use Rattle.scx_sched_tasks.specs.declared.tasks.Tasks.TheInside.{Inside}
use Rattle.scx_sched_tasks.specs.Tasks.{no_task}

-- the records that the fields of `Tasks` represent, by the tasks' numbers
abbrev pub records_of : Inside → List Task
records_of x = x.records.items

-- nobody of that block of 32 tasks waits since before then
abbrev pub WaitNoLonger : ℕ → ℕ → List Task → Type 0
WaitNoLonger since b tasks =
    (t n : ℕ) → t / 32 ≡ b → (slice_index_or tasks t no_task).since ≡ Some n → since ≤ n

-- Nobody of a block waits since before the clock that is kept for it, and nobody at all since
-- before the one that is kept for all. A task that waited since then may wait no more.
pub record AreWatched (w : Watch) (tasks : List Task) : Type 0 where
  pub count : length w.blocks ≡ 32
  pub least : (b : ℕ) → b < 32 → w.oldest ≤ slice_index_or w.blocks b 0
  pub each : (b : ℕ) → WaitNoLonger (slice_index_or w.blocks b 0) b tasks

-- a task may wait since then
abbrev pub with_earlier : Watch → ℕ → Option ℕ → Watch
with_earlier w t None = w
with_earlier w t (Some n) = record {
  oldest = min w.oldest n;
  blocks = slice_set w.blocks (t / 32) (min (slice_index_or w.blocks (t / 32) 0) n);
}

-- what always holds of the fields of `Tasks`
pub record IsKept (x : Inside) : Type 0 where
  pub few : length x.records.items ≤ 1024
  pub watched : AreWatched x.watch x.records.items
