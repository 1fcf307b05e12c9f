-- Milliseconds in which nothing happens but that tasks run and the clock grows, as events.
use Rattle.std.specs.Prelude.{◌≡◌, ℕ, zero, suc, ⊤, ◌+◌, ◌*◌, ◌≤◌, Bool, true, false, List, [], ◌∷◌, ◌++◌, length, Some, None}
use Rattle.scx_sched_world.specs.World.{task_at, running}
use Rattle.scx_sched_world.specs.Tasks.{tick_ns}
use Rattle.scx_sched_machine.specs.declared.events.Event.{Event}
use Rattle.scx_sched_machine.specs.declared.events.Event.TheVariants.{Wake, Sleep, Tick, Clock, SetWeight, SetTaskWeight}
use Rattle.scx_sched_machine.specs.Callbacks.{AreAnswered}
use Rattle.scx_sched.specs.Once.{IsOnce}
use Rattle.scx_sched.specs.Waits.{IsTimely, HasWaits}
use Rattle.scx_sched.specs.Usages.{AreBounded}
use Rattle.scx_sched.specs.Decided.{Follows}
use Rattle.scx_sched.specs.Sim.{SimState, max_events, refusal, after_event, notes_of, calls_of}

-- a tick of each processor below that number
abbrev pub ticks_below : ℕ → List Event
ticks_below zero = []
ticks_below (suc c) = ticks_below c ++ Tick c ∷ []

-- the events of a millisecond in which no task wakes or sleeps and no weight changes
abbrev pub quiet_ms : ℕ → List Event
quiet_ms cpus = ticks_below cpus ++ Clock ∷ []

-- that many of these, one after another
abbrev pub quiet_events : ℕ → ℕ → List Event
quiet_events zero cpus = []
quiet_events (suc n) cpus = quiet_events n cpus ++ quiet_ms cpus

-- as many events are accepted still as that many milliseconds have
abbrev pub AreLeft : ℕ → SimState → Type 0
AreLeft n s = s.events + n * (length s.state.world.cpus + 1) ≤ max_events

-- the state after these events
abbrev pub after_all : SimState → List Event → SimState
after_all s [] = s
after_all s (e ∷ es) = after_all (after_event s e) es

-- true for a tick and for the clock
abbrev pub is_of_time : Event → Bool
is_of_time (Tick c) = true
is_of_time Clock = true
is_of_time (Wake t) = false
is_of_time (Sleep t) = false
is_of_time (SetWeight g x) = false
is_of_time (SetTaskWeight t x) = false

-- a tick or the clock, of which nothing is noted, after which all is in order, and of which comes
-- what it alone decides
pub record GoesQuietly (s : SimState) (e : Event) : Type 0 where
  pub time : is_of_time e ≡ true
  pub notes : notes_of s e ≡ []
  pub answered : AreAnswered (calls_of s e)
  pub follows : Follows (refusal s e) s e (after_event s e)
  pub once : IsOnce None (after_event s e).state.world
  pub counted : HasWaits None (after_event s e).state.world
  pub timely : IsTimely (after_event s e).state
  pub bounded : AreBounded (after_event s e).state.world

-- so goes each of these events
abbrev pub GoQuietly : SimState → List Event → Type 0
GoQuietly s [] = ⊤
GoQuietly s (e ∷ es) = GoesQuietly s e × GoQuietly (after_event s e) es

-- as a processor ticks, a task that runs there ran there at first too, and has run for less than
-- that much longer
abbrev pub TicksWithin : ℕ → SimState → SimState → Event → Type 0
TicksWithin ns first s (Tick c) =
    (t : ℕ)
    → running s.state.world c ≡ Some t
    → (running first.state.world c ≡ Some t)
    × ((task_at s.state.world t).run_ns + tick_ns ≤ (task_at first.state.world t).run_ns + ns)
TicksWithin ns first s Clock = ⊤
TicksWithin ns first s (Wake t) = ⊤
TicksWithin ns first s (Sleep t) = ⊤
TicksWithin ns first s (SetWeight g x) = ⊤
TicksWithin ns first s (SetTaskWeight t x) = ⊤

-- so it is at each of these events
abbrev pub AllWithin : ℕ → SimState → SimState → List Event → Type 0
AllWithin ns first s [] = ⊤
AllWithin ns first s (e ∷ es) =
    TicksWithin ns first s e × AllWithin ns first (after_event s e) es
