-- The events of a file: for each millisecond the lines of weights and of wakes, a tick of each
-- processor, the lines of sleeps, and the clock.
use Rattle.std.specs.Prelude.{ℕ, zero, suc, ◌+◌, ◌==◌, ◌&&◌, not, Bool, List, [], ◌∷◌, ◌++◌, if◌then◌else◌}
use Rattle.scx_sched_machine.specs.declared.events.Event.{Event}
use Rattle.scx_sched_machine.specs.declared.events.Event.TheVariants as event
use Rattle.scx_load_replay.specs.declared.lines.Line.{Line}
use Rattle.scx_load_replay.specs.Replay.{ReplayState, block_of}

-- the event comes after the ticks of its millisecond
abbrev pub is_sleep : Event → Bool
is_sleep e = block_of e == 2

-- the line is of that millisecond, and comes before its ticks
abbrev pub is_before_ticks : ℕ → Line → Bool
is_before_ticks m l = (l.at == m) && not (is_sleep l.event)

-- the line is of that millisecond, and comes after its ticks
abbrev pub is_behind_ticks : ℕ → Line → Bool
is_behind_ticks m l = (l.at == m) && is_sleep l.event

-- the events of the first lines that pass a test, up to the first that doesn't
abbrev pub first_events : (Line → Bool) → List Line → List Event
first_events test [] = []
first_events test (l ∷ ls) = if test l then l.event ∷ first_events test ls else []

-- the lines from the first on that doesn't pass
abbrev pub lines_behind : (Line → Bool) → List Line → List Line
lines_behind test [] = []
lines_behind test (l ∷ ls) = if test l then lines_behind test ls else l ∷ ls

-- ticks of this number of CPUs, from that one on
abbrev pub ticks_from : ℕ → ℕ → List Event
ticks_from zero c = []
ticks_from (suc n) c = event.Tick c ∷ ticks_from n (c + 1)

-- the events of this number of milliseconds from m on, as these lines say
abbrev pub events_from : ℕ → ℕ → ℕ → List Line → List Event
events_from cpus zero m ls = []
events_from cpus (suc n) m ls =
    first_events (is_before_ticks m) ls
    ++ (ticks_from cpus 0
    ++ (first_events (is_behind_ticks m) (lines_behind (is_before_ticks m) ls)
    ++ event.Clock
    ∷ events_from cpus n (m + 1)
    (lines_behind (is_behind_ticks m) (lines_behind (is_before_ticks m) ls))))

-- the events of a file
abbrev pub replay_events : ReplayState → List Event
replay_events r = events_from r.workload.cpus r.workload.ms 0 r.lines
