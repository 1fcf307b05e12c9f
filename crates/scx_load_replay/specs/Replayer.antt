-- A replayer: the remaining events of a file.
use Rattle.std.specs.Prelude.{ℕ, zero, suc, ◌+◌, ◌-◌, ◌≤◌, Bool, true, false, List, [], ◌∷◌, ◌++◌, drop, length, Option, Some, None, if◌then◌else◌}
use Rattle.scx_sched_machine.specs.declared.events.Event.{Event}
use Rattle.scx_sched_machine.specs.declared.events.Event.TheVariants as event
use Rattle.scx_load_workloads.specs.Workload.{max_ms}
use Rattle.scx_load_replay.specs.declared.lines.Line.{Line}
use Rattle.scx_load_replay.specs.declared.replayer.Replayer.TheInside.{Inside}
use Rattle.scx_load_replay.specs.Events.{is_before_ticks, is_behind_ticks, first_events, lines_behind, ticks_from, events_from}

-- the milliseconds that aren't over, from m on, the number of CPUs that have ticked in the first,
-- and the remaining lines
pub record ReplayerState : Type 0 where
  pub cpus : ℕ
  pub m : ℕ
  pub left : ℕ
  pub ticked : ℕ
  pub lines : List Line

-- the lines that come before a tick, if no processor has ticked
abbrev pub before_ticks : ℕ → ℕ → List Line → List Event
before_ticks zero m ls = first_events (is_before_ticks m) ls
before_ticks (suc n) m ls = []

-- the lines after those
abbrev pub behind_before : ℕ → ℕ → List Line → List Line
behind_before zero m ls = lines_behind (is_before_ticks m) ls
behind_before (suc n) m ls = ls

-- the events of a millisecond after its ticks, and of this number of milliseconds after it
abbrev pub behind_ticks : ℕ → ℕ → ℕ → List Line → List Event
behind_ticks cpus n m ls =
    first_events (is_behind_ticks m) ls
    ++ event.Clock
    ∷ events_from cpus n (m + 1) (lines_behind (is_behind_ticks m) ls)

-- the remaining events of this number of milliseconds
abbrev pub remaining_of : ℕ → ℕ → ℕ → ℕ → List Line → List Event
remaining_of cpus zero m ticked ls = []
remaining_of cpus (suc n) m ticked ls =
    before_ticks ticked m ls
    ++ (ticks_from (cpus - ticked) ticked
    ++ behind_ticks cpus n m (behind_before ticked m ls))

-- the remaining events
abbrev pub remaining : ReplayerState → List Event
remaining r = remaining_of r.cpus r.left r.m r.ticked r.lines

-- ---- the next line

-- the line comes now: before the ticks of that millisecond, or after them
abbrev pub is_due : Bool → ℕ → Line → Bool
is_due false m l = is_before_ticks m l
is_due true m l = is_behind_ticks m l

-- the event of the first line, if that comes now
abbrev pub due_event : Bool → ℕ → List Line → Option Event
due_event after_ticks m [] = None
due_event after_ticks m (l ∷ ls) = if is_due after_ticks m l then Some l.event else None

-- the lines that remain once it has come
abbrev pub lines_left : Bool → ℕ → List Line → List Line
lines_left after_ticks m [] = []
lines_left after_ticks m (l ∷ ls) = if is_due after_ticks m l then ls else l ∷ ls

-- ---- fields

-- the state that the fields mean
abbrev pub state_of : Inside → ReplayerState
state_of r = record {
  cpus = r.cpus;
  m = r.clock;
  left = r.left;
  ticked = r.ticked;
  lines = drop r.taken r.lines.items;
}

-- the fields are whole
pub record IsKept (r : Inside) : Type 0 where
  pub some_cpus : 1 ≤ r.cpus
  pub ticked : r.ticked ≤ r.cpus
  pub taken : r.taken ≤ length r.lines.items
  pub times : r.clock + r.left ≤ max_ms
