-- The state of each task as the notes of a run come, and the pauses that end: times in which a task
-- had work to do and didn't run.
use Rattle.std.specs.Prelude.{ℕ, ◌==◌, if◌then◌else◌, Bool, true, false, List, Option, Some, None, slice_index_or, slice_set}
use Rattle.scx_sched_world.specs.Ids.{parked_queue}
use Rattle.scx_sched_world.specs.declared.notes.What.{What}
use Rattle.scx_sched_world.specs.declared.notes.What.TheVariants.{Wake, Sleep, Insert, Move, Run, Stop, Idle, Weight, TaskWeight, Stall, Fault, Exit}
use Rattle.scxsim_views.specs.declared.pauses.Doing.{Doing}
use Rattle.scxsim_views.specs.declared.pauses.Doing.TheVariants.{Sleeps, Waits, Runs, IsParked}
use Rattle.scxsim_views.specs.declared.pauses.Pause.{Pause}
use Rattle.scxsim_views.specs.declared.pauses.PauseKind.TheVariants as kind

-- true if the task has no work to do
abbrev pub sleeps : Doing → Bool
sleeps Sleeps = true
sleeps (Waits since) = false
sleeps Runs = false
sleeps (IsParked since) = false

-- true if the task waits for a CPU
abbrev pub waits : Doing → Bool
waits Sleeps = false
waits (Waits since) = true
waits Runs = false
waits (IsParked since) = false

-- true if the task is on a CPU
abbrev pub runs : Doing → Bool
runs Sleeps = false
runs (Waits since) = false
runs Runs = true
runs (IsParked since) = false

-- true if the task is parked
abbrev pub is_parked : Doing → Bool
is_parked Sleeps = false
is_parked (Waits since) = false
is_parked Runs = false
is_parked (IsParked since) = true

-- the state of a task; one that isn't there sleeps
abbrev pub doing_at : List Doing → ℕ → Doing
doing_at ds t = slice_index_or ds t Sleeps

-- ---- the task of a note

-- the task of which a note says that it wakes, sleeps, runs, stops or comes into a queue
abbrev pub of_task : What → Option ℕ
of_task (Wake t) = Some t
of_task (Sleep t) = Some t
of_task (Run t c) = Some t
of_task (Stop t c) = Some t
of_task (Insert t queue) = Some t
of_task (Move t c) = None
of_task (Idle c) = None
of_task (Weight g x) = None
of_task (TaskWeight t x) = None
of_task (Stall t) = None
of_task (Fault f) = None
of_task (Exit n) = None

-- one that runs waits from now on; one that sleeps, which is noted first, goes on sleeping
abbrev pub doing_after_stop : ℕ → Doing → Doing
doing_after_stop now d = if runs d then Waits now else d

-- in the queue of parked tasks it is parked, and one that was parked waits from now on; in
-- others it waits as before
abbrev pub doing_after_insert : ℕ → ℕ → Doing → Doing
doing_after_insert now queue d =
    if queue == parked_queue then IsParked now else if is_parked d then Waits now else d

-- the state of the task of a note, after it
abbrev pub does : ℕ → What → Doing → Doing
does now (Wake t) d = Waits now
does now (Sleep t) d = Sleeps
does now (Run t c) d = Runs
does now (Stop t c) d = doing_after_stop now d
does now (Insert t queue) d = doing_after_insert now queue d
does now (Move t c) d = d
does now (Idle c) d = d
does now (Weight g x) d = d
does now (TaskWeight t x) d = d
does now (Stall t) d = d
does now (Fault f) d = d
does now (Exit n) d = d

-- the pause of a task in this state, if it waits or is parked
abbrev pub pause_of : ℕ → ℕ → Doing → Option Pause
pause_of now t Sleeps = None
pause_of now t (Waits since) = Some (record {
  task = t;
  kind = kind.Wait;
  since = since;
  until = now;
})
pause_of now t Runs = None
pause_of now t (IsParked since) = Some (record {
  task = t;
  kind = kind.Parked;
  since = since;
  until = now;
})

-- the pause that ends as a task comes into a queue: a wait where it is parked, parking always
abbrev pub ended_by_insert : ℕ → ℕ → ℕ → Doing → Option Pause
ended_by_insert now t queue d =
    if queue == parked_queue then pause_of now t d
    else if is_parked d then pause_of now t d else None

-- the pause of the task that a note ends
abbrev pub ending_pause : ℕ → ℕ → What → Doing → Option Pause
ending_pause now t (Wake u) d = pause_of now t d
ending_pause now t (Sleep u) d = pause_of now t d
ending_pause now t (Run u c) d = pause_of now t d
ending_pause now t (Stop u c) d = None
ending_pause now t (Insert u queue) d = ended_by_insert now t queue d
ending_pause now t (Move u c) d = None
ending_pause now t (Idle c) d = None
ending_pause now t (Weight g x) d = None
ending_pause now t (TaskWeight u x) d = None
ending_pause now t (Stall u) d = None
ending_pause now t (Fault f) d = None
ending_pause now t (Exit n) d = None

-- ---- all tasks

-- the state of each task after a note of that task, or of none
abbrev pub doing_with : Option ℕ → ℕ → What → List Doing → List Doing
doing_with None now what ds = ds
doing_with (Some t) now what ds = slice_set ds t (does now what (doing_at ds t))

-- the state of each task after a note
abbrev pub doing_after : ℕ → What → List Doing → List Doing
doing_after now what ds = doing_with (of_task what) now what ds

-- the pause that is ended by a note of that task, or of none
abbrev pub ended_with : Option ℕ → ℕ → What → List Doing → Option Pause
ended_with None now what ds = None
ended_with (Some t) now what ds = ending_pause now t what (doing_at ds t)

-- the pause that a note ends
abbrev pub ended_by : ℕ → What → List Doing → Option Pause
ended_by now what ds = ended_with (of_task what) now what ds

-- the pause that goes on
abbrev pub open_pause : ℕ → List Doing → ℕ → Option Pause
open_pause now ds t = pause_of now t (doing_at ds t)
