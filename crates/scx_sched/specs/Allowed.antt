-- Bound tasks are where they may run (sched_setaffinity(2)).
use Rattle.std.specs.Prelude.{◌≡◌, ℕ, ◌<◌, true, List, length, slice_index_or, Option, Some, None}
use Rattle.scx_dsq.specs.Queues.{queue_of}
use Rattle.scx_sched_world.specs.declared.call.Insert.{Insert}
use Rattle.scx_sched_world.specs.Ids.{local_on}
use Rattle.scx_sched_world.specs.World.{WorldState, task_at, running, may_run}

-- a task may run on the processor on which it runs, on that in whose local queue it waits, and on
-- its own
pub record AreAllowed (w : WorldState) : Type 0 where
  pub running : (c t : ℕ) → running w c ≡ Some t → may_run w t c ≡ true
  pub local : (c t : ℕ)
      → c < length w.cpus → queue_of w.queues t ≡ Some (local_on c) → may_run w t c ≡ true
  pub home : (t : ℕ) → t < length w.tasks → may_run w t (task_at w t).prev_cpu ≡ true

-- ---- inside an event

-- where an insert brings a task to a local queue, the task may run on its processor
abbrev pub MayGo : ℕ → WorldState → ℕ → Insert → Type 0
MayGo cpus w t i = (c : ℕ) → c < cpus → i.queue ≡ local_on c → may_run w t c ≡ true

-- of n tasks with these on the processors, each is where it may run, and the insert that is
-- kept brings the task at hand there
pub record IsAllowedIn (on : List (Option ℕ)) (n : ℕ) (w : WorldState) : Type 0 where
  pub runs : (c t : ℕ) → slice_index_or on c None ≡ Some t → may_run w t c ≡ true
  pub local : (c t : ℕ)
      → c < length on → queue_of w.queues t ≡ Some (local_on c) → may_run w t c ≡ true
  pub home : (t : ℕ) → t < n → may_run w t (task_at w t).prev_cpu ≡ true
  pub asks : (i : Insert) → w.call.insert ≡ Some i → MayGo (length on) w w.call.task i
