-- The queue of each task as the notes of a run come, and the tasks that are taken out of one.
use Rattle.std.specs.Prelude.{ℕ, ◌==◌, ◌&&◌, not, if◌then◌else◌, Bool, false, List, Option, Some, None, slice_index_or, slice_set}
use Rattle.scx_sched_world.specs.Ids.{local_on, held_queue, builtin_queue, parked_queue}
use Rattle.scx_sched_world.specs.declared.notes.What.{What}
use Rattle.scx_sched_world.specs.declared.notes.What.TheVariants.{Sleep, Insert, Move, Run}
use Rattle.scxsim_waits.specs.declared.task_queues.Taken.{Taken}

-- the queue of that task, if it is in one
abbrev pub place_at : List (Option ℕ) → ℕ → Option ℕ
place_at ps t = slice_index_or ps t None

-- a task is in the queue that it last came into, until it runs or sleeps
abbrev pub places_after : What → List (Option ℕ) → List (Option ℕ)
places_after (Sleep t) ps = slice_set ps t None
places_after (Insert t q) ps = slice_set ps t (Some q)
places_after (Move t c) ps = slice_set ps t (Some (local_on c))
places_after (Run t c) ps = slice_set ps t None
places_after what ps = ps

-- a task in that place is taken out of it
abbrev pub taken_from : ℕ → Option ℕ → Option Taken
taken_from t None = None
taken_from t (Some q) = Some (record { task = t; queue = q })

-- the task is taken out of its queue
abbrev pub taken_at : List (Option ℕ) → ℕ → Option Taken
taken_at ps t = taken_from t (place_at ps t)

-- one in that place is held, and comes into a queue by the policy's will
abbrev pub goes_in : ℕ → Option ℕ → Bool
goes_in q None = false
goes_in q (Some p) = p == held_queue && not (q == builtin_queue) && not (q == parked_queue)

-- the task is held, and the policy puts it into that queue
abbrev pub is_let_in : List (Option ℕ) → ℕ → ℕ → Bool
is_let_in ps t q = goes_in q (place_at ps t)

-- the task that a note takes out of a queue: one that moves to a CPU or runs there, or is no longer
-- held
abbrev pub taken_by : What → List (Option ℕ) → Option Taken
taken_by (Insert t q) ps = if is_let_in ps t q then taken_at ps t else None
taken_by (Move t c) ps = taken_at ps t
taken_by (Run t c) ps = taken_at ps t
taken_by what ps = None
