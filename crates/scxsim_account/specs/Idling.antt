-- The CPUs that are idle while a task waits that may run there, and the tasks that have begun to
-- run: their sums as the events and notes of a run come.
use Rattle.std.specs.Prelude.{ℕ, zero, suc, ◌+◌, ◌-◌, ◌^◌, min, ◌==◌, ◌&&◌, ◌||◌, if◌then◌else◌, not, Bool, true, false, List, length, replicate, Option, Some, None, is_some, slice_index_or, slice_set}
use Rattle.scx_sched_world.specs.declared.notes.What.{What}
use Rattle.scx_sched_world.specs.declared.notes.What.TheVariants.{Wake, Sleep, Insert, Move, Run, Stop, Weight, TaskWeight, Stall, Fault, Exit}
use Rattle.scx_sched_world.specs.declared.notes.What.TheVariants as note
use Rattle.scx_sched_world.specs.World.{WorldState, binds, may_run, running}
use Rattle.scx_sched_machine.specs.declared.events.Event.{Event}
use Rattle.scx_sched_machine.specs.declared.events.Event.TheVariants as event
use Rattle.scx_sched.specs.Sim.{SimState}
use Rattle.scxsim_views.specs.declared.pauses.Doing.{Doing}
use Rattle.scxsim_views.specs.declared.pauses.Doing.TheVariants.{Sleeps}
use Rattle.scxsim_views.specs.declared.pauses.Pause.{Pause}
use Rattle.scxsim_views.specs.declared.pauses.PauseKind.{PauseKind}
use Rattle.scxsim_views.specs.declared.pauses.PauseKind.TheVariants as kind
use Rattle.scxsim_views.specs.Pauses.{doing_after, open_pause}
use Rattle.scxsim_views.specs.Watching.{kept_of_all}
use Rattle.scxsim_account.specs.declared.idling.IdleFigures.{IdleFigures}

-- a number with one more, up to the greatest of 64 bits
abbrev pub one_more : ℕ → ℕ
one_more n = min (n + 1) (2 ^ 64 - 1)

-- the time since which the task of a pause waits for a CPU; a parked task doesn't wait
abbrev pub since_of : PauseKind → ℕ → Option ℕ
since_of kind.Wait since = Some since
since_of kind.Parked since = None

-- the time since which a task with this pause waits, if it has one
abbrev pub wait_since : Option Pause → Option ℕ
wait_since None = None
wait_since (Some p) = since_of p.kind p.since

-- the time since which that task waits for a CPU, if it does
abbrev pub waits_since : List Doing → ℕ → Option ℕ
waits_since ds t = wait_since (open_pause 0 ds t)

-- the first of that many tasks that waits for a CPU, from this one on in their order
abbrev pub first_waiting : ℕ → ℕ → List Doing → Option ℕ
first_waiting zero t ds = None
first_waiting (suc n) t ds =
    if is_some (waits_since ds t) then Some t else first_waiting n (t + 1) ds

-- the first of that many tasks that waits and may run on that CPU, from this one on
abbrev pub first_bound : WorldState → ℕ → ℕ → ℕ → List Doing → Option ℕ
first_bound w c zero t ds = None
first_bound w c (suc n) t ds =
    if is_some (waits_since ds t) && may_run w t c then Some t else first_bound w c n (t + 1) ds

-- the first task that waits for that CPU: where tasks are bound, one that may run there
abbrev pub first_for : WorldState → ℕ → List Doing → Option ℕ
first_for w c ds =
    if binds w then first_bound w c (length w.tasks) 0 ds
    else first_waiting (length w.tasks) 0 ds

-- the first task that waits for each CPU below that number
abbrev pub waiting_below : ℕ → WorldState → List Doing → List (Option ℕ) → List (Option ℕ)
waiting_below zero w ds xs = xs
waiting_below (suc c) w ds xs = slice_set (waiting_below c w ds xs) c (first_for w c ds)

-- the tasks that have begun to run, after a note
abbrev pub begun_after : What → List Bool → List Bool
begun_after (Wake t) bs = bs
begun_after (Sleep t) bs = bs
begun_after (Insert t q) bs = bs
begun_after (Move t c) bs = bs
begun_after (Run t c) bs = slice_set bs t true
begun_after (Stop t c) bs = bs
begun_after (note.Idle c) bs = bs
begun_after (Weight g x) bs = bs
begun_after (TaskWeight t x) bs = bs
begun_after (Stall t) bs = bs
begun_after (Fault f) bs = bs
begun_after (Exit n) bs = bs

-- each task's state, the first task that waited for each CPU as the ticks of the current
-- millisecond began, whether a task waited in some millisecond, whether each task has begun to run,
-- the clock since which each CPU has been idle while a task waited for it, the number of such
-- stretches, and their milliseconds in all
pub record Idle : Type 0 where
  pub doing : List Doing
  pub waiting : List (Option ℕ)
  pub has_waited : Bool
  pub begun : List Bool
  pub since : List (Option ℕ)
  pub count : ℕ
  pub lost : ℕ

-- the clock since which that CPU has been idle while a task waited, if it has
abbrev pub since_at : List (Option ℕ) → ℕ → Option ℕ
since_at xs c = slice_index_or xs c None

-- the task that waits for that CPU, if one does
abbrev pub waiting_at : List (Option ℕ) → ℕ → Option ℕ
waiting_at xs c = slice_index_or xs c None

-- the tasks that wait, as of that world
abbrev pub noticed : WorldState → Idle → Idle
noticed w k = record k {
  waiting = waiting_below (length w.cpus) w k.doing k.waiting;
  has_waited = k.has_waited || is_some (first_waiting (length w.tasks) 0 k.doing);
}

-- the ticks of a millisecond begin with that of CPU 0: a task that waits then waited in that
-- millisecond
abbrev pub ticks_begin : WorldState → ℕ → Idle → Idle
ticks_begin w c k = if c == 0 then noticed w k else k

-- a CPU is idle for a millisecond while a task waits for it: a stretch goes on, or begins
abbrev pub one_lost : ℕ → ℕ → Idle → Idle
one_lost clock c k =
    if is_some (since_at k.since c) then record k { lost = one_more k.lost }
    else record k {
      lost = one_more k.lost;
      count = one_more k.count;
      since = slice_set k.since c (Some clock);
    }

-- no stretch of that CPU goes on
abbrev pub closed : ℕ → Idle → Idle
closed c k = record k { since = slice_set k.since c None }

-- a CPU's tick: a millisecond is lost, or no stretch of it goes on
abbrev pub ticked : ℕ → ℕ → Bool → Idle → Idle
ticked clock c is_idle k =
    if is_some (waiting_at k.waiting c) && is_idle then one_lost clock c k else closed c k

-- the sums after an event, before its notes: a tick is of a CPU that runs a task or none
abbrev pub idle_after_event : SimState → Event → Idle → Idle
idle_after_event s (event.Tick c) k =
    ticked s.state.world.clock c (not (is_some (running s.state.world c)))
    (ticks_begin s.state.world c k)
idle_after_event s (event.Wake t) k = k
idle_after_event s (event.Sleep t) k = k
idle_after_event s event.Clock k = k
idle_after_event s (event.SetWeight g x) k = k
idle_after_event s (event.SetTaskWeight t x) k = k

-- the sums after a note
abbrev pub idle_after_note : ℕ → What → Idle → Idle
idle_after_note clock what k =
    record k { doing = doing_after clock what k.doing; begun = begun_after what k.begun }

-- the sums before a run
abbrev pub none_idle : ℕ → ℕ → Idle
none_idle tasks cpus = record {
  doing = replicate tasks Sleeps;
  waiting = replicate cpus None;
  has_waited = false;
  begun = replicate tasks false;
  since = replicate cpus None;
  count = 0;
  lost = 0;
}

-- the sums of a whole run of these events from that state on
abbrev pub idle_of : SimState → List Event → Idle
idle_of s es =
    kept_of_all idle_after_event idle_after_note s es
    (none_idle (length s.state.world.tasks) (length s.state.world.cpus))

-- the figures of these sums
abbrev pub figures_of : Idle → IdleFigures
figures_of k = record { count = k.count; lost = k.lost; has_waited = k.has_waited }
