-- The number of stretches in the page of a part of a run. A stretch is time in which a task waited
-- or ran.
use Rattle.std.specs.Prelude.{◌≡◌, ℕ, ◌+◌, ◌-◌, ◌^◌, min, max, Bool, true, false, nat_lt, List, [], ◌∷◌, length, replicate, count_by, Option, None, Some, slice_index_or, slice_set}
use Rattle.scx_sched_world.specs.declared.notes.Note.{Note}
use Rattle.scx_sched_world.specs.declared.notes.What.{What}
use Rattle.scx_sched_world.specs.declared.notes.What.TheVariants.{Wake, Sleep, Insert, Move, Run, Stop, Idle, Weight, TaskWeight, Stall, Fault, Exit}
use Rattle.scx_sched_machine.specs.declared.events.Event.{Event}
use Rattle.scx_sched.specs.Sim.{SimState, after_event, notes_of}
use Rattle.scx_load_replay.specs.declared.scenario.Scenario.{Scenario}
use Rattle.scx_load_replay.specs.Scenarios.{workload_of, scenario_events}
use Rattle.scx_load_driver.specs.Runs.{stepped_all}
use Rattle.scxsim_commands.specs.declared.windows.Window.{Window}
use Rattle.scxsim_trace.specs.Observing.{is_at_end, moment}

-- the beginning of each task's wait or run, if it waits or runs, and the number of stretches that
-- have ended
pub record Counts : Type 0 where
  pub window : Window
  pub since : List (Option ℕ)
  pub count : ℕ

-- the moment of the window that is nearest
abbrev pub within : Window → ℕ → ℕ
within window m = min (max m window.from) window.to

-- whether some time has passed since then
abbrev pub has_lasted : ℕ → Option ℕ → Bool
has_lasted now None = false
has_lasted now (Some since) = nat_lt since now

-- a number, where it is no more than 64 bits hold
abbrev pub at_most_64_bits : ℕ → ℕ
at_most_64_bits n = min n (2 ^ 64 - 1)

-- the count, and one more for a stretch that has lasted
abbrev pub with_one : Bool → ℕ → ℕ
with_one true count = at_most_64_bits (count + 1)
with_one false count = count

-- from that moment on the task does something else, or nothing: if what it did has lasted, that was
-- a stretch
abbrev pub turned : ℕ → ℕ → Option ℕ → Counts → Counts
turned task now next k = record {
  window = k.window;
  since = slice_set k.since task next;
  count = with_one (has_lasted now (slice_index_or k.since task None)) k.count;
}

-- a task that wakes, comes into a queue or runs begins to wait or to run, and one that sleeps or
-- stops does neither
abbrev pub after_note : ℕ → What → Counts → Counts
after_note m (Wake t) k = turned t (within k.window m) (Some (within k.window m)) k
after_note m (Insert t queue) k = turned t (within k.window m) (Some (within k.window m)) k
after_note m (Move t c) k = turned t (within k.window m) (Some (within k.window m)) k
after_note m (Run t c) k = turned t (within k.window m) (Some (within k.window m)) k
after_note m (Sleep t) k = turned t (within k.window m) None k
after_note m (Stop t c) k = turned t (within k.window m) None k
after_note m (Idle c) k = k
after_note m (Weight g x) k = k
after_note m (TaskWeight t x) k = k
after_note m (Stall t) k = k
after_note m (Fault f) k = k
after_note m (Exit n) k = k

-- the notes of an event, one after another
abbrev pub after_notes : Bool → List Note → Counts → Counts
after_notes at_end [] k = k
after_notes at_end (n ∷ ns) k =
    after_notes at_end ns (after_note (moment at_end n.clock) n.what k)

-- events, one after another
abbrev pub after_events : SimState → List Event → Counts → Counts
after_events s [] k = k
after_events s (e ∷ es) k =
    after_events (after_event s e) es (after_notes (is_at_end e) (notes_of s e) k)

-- all stretches, with those that go on at that clock
abbrev pub all_counted : ℕ → Counts → ℕ
all_counted clock k =
    at_most_64_bits (k.count + count_by (has_lasted (within k.window clock)) k.since)

-- the stretches of these events
abbrev pub stretches_of : SimState → List Event → Counts → ℕ
stretches_of s es k = all_counted (stepped_all s es).state.world.clock (after_events s es k)

-- before the first event all of these tasks sleep
abbrev pub none_yet : Window → ℕ → Counts
none_yet window tasks = record { window = window; since = replicate tasks None; count = 0 }

-- the stretches of a part of the run of a scenario
abbrev pub stretches_in : Window → Scenario → SimState → ℕ
stretches_in window x s =
    stretches_of s (scenario_events x s) (none_yet window (length (workload_of x).homes))
