-- The machine between two events, with the number of those that it accepted.
use Rattle.std.specs.Prelude.{◌≡◌, ℕ, ◌==◌, ◌+◌, ◌-◌, ◌*◌, ◌≤◌, ◌^◌, List, [], length, Option, Some, None, Result, Ok, Err, if◌then◌else◌}
use Rattle.scx_sched_world.specs.declared.eject.Eject.TheVariants as cause
use Rattle.scx_sched_world.specs.declared.faults.Fault.TheVariants.{Stuck}
use Rattle.scx_sched_world.specs.declared.notes.Note.{Note}
use Rattle.scx_sched_world.specs.World.{nothing_passes}
use Rattle.scx_sched_machine.specs.declared.events.Event.{Event}
use Rattle.scx_sched_machine.specs.declared.events.Refused.{Refused}
use Rattle.scx_sched_machine.specs.declared.events.Refused.TheVariants.{RunOver}
use Rattle.scx_weights.specs.Hierarchy.{Hierarchy}
use Rattle.scx_sched_policy.specs.Policy.{PolicyState, IsTimeout, AreAs}
use Rattle.scx_sched_machine.specs.Steps.{State, CallMade}
use Rattle.scx_sched_machine.specs.Start.{first_state}
use Rattle.scx_sched_machine.specs.Budgets.{start_pushes, event_pushes}
use Rattle.scx_sched_machine.specs.Events as machine
use Rattle.scx_sched.specs.Once.{AreInQueues}
use Rattle.scx_sched.specs.Current.{AreCurrent}
use Rattle.scx_sched.specs.Waits.{IsTimely}
use Rattle.scx_sched.specs.Timers.{AreTimersLater}
use Rattle.scx_sched.specs.Allowed.{AreAllowed}
use Rattle.scx_sched.specs.Ranges.{IsFine}

-- a machine between two events, and how many events it has accepted
pub record SimState : Type 0 where
  pub state : State
  pub events : ℕ

-- how many events are accepted at most
abbrev pub max_events : ℕ
max_events = 2 ^ 32

-- how many events were accepted, if that many can still be accepted
abbrev pub accepted : ℕ → ℕ
accepted left = max_events - left

-- why an event is refused, if it is: after 2^32 accepted ones each is, before any other cause
abbrev pub refusal : SimState → Event → Option Refused
refusal s e = if s.events == max_events then Some RunOver else machine.refusal s.state e

-- the state after an event that is refused for that cause, or accepted
abbrev pub stepped_if : Option Refused → SimState → Event → SimState
stepped_if None s e = record { state = (machine.event_step s.state e).state; events = s.events + 1 }
stepped_if (Some r) s e = s

-- the state after an event; one that is refused changes nothing
abbrev pub after_event : SimState → Event → SimState
after_event s e = stepped_if (refusal s e) s e

-- the notes of an event that is refused for that cause, or accepted
abbrev pub notes_if : Option Refused → SimState → Event → List Note
notes_if None s e = (machine.event_step s.state e).notes
notes_if (Some r) s e = []

-- its notes; one that is refused has none
abbrev pub notes_of : SimState → Event → List Note
notes_of s e = notes_if (refusal s e) s e

-- the callbacks that are called in an event that is refused for that cause, or accepted
abbrev pub calls_if : Option Refused → SimState → Event → List CallMade
calls_if None s e = (machine.event_step s.state e).calls
calls_if (Some r) s e = []

-- the callbacks that it calls
abbrev pub calls_of : SimState → Event → List CallMade
calls_of s e = calls_if (refusal s e) s e

-- what is answered to an event: nothing more where it is accepted, else the refusal
abbrev pub answer_of : Option Refused → Result (Unit {0}) Refused
answer_of None = Ok tt
answer_of (Some r) = Err r

-- the machine of a policy, before any event
abbrev pub IsFirstState : PolicyState → Hierarchy → ℕ → SimState → Type 0
IsFirstState p tree cpus s = (first_state p tree cpus ≡ Ok s.state) × (s.events ≡ 0)

-- what holds between two events
pub record IsValid (state : State) (events : ℕ) : Type 0 where
  pub over : events ≤ max_events
  pub pushes : state.world.queues.pushes ≤ start_pushes + event_pushes * events
  pub still : state.world.cycling ≡ None
  pub settled : state.world.passing ≡ nothing_passes
  pub current : AreCurrent state.world
  pub rules : state.world.rules ≡ state.policy.rules
  pub timeout : IsTimeout state.policy.timeout_ms
  pub programs : AreAs state.policy.callbacks
  pub timely : IsTimely state
  pub timers : AreTimersLater state.world
  pub allowed : AreAllowed state.world
  pub unstuck : (n : ℕ) → state.world.ejected ≡ Some (cause.Fault Stuck n) → ⊥
  pub there : AreInQueues state.world
  pub fine : IsFine (length state.world.tasks) events events None state.world.cpus state.world

-- what holds of a machine that accepts that many events still
pub record IsCounted (state : State) (left : ℕ) : Type 0 where
  pub few : left ≤ max_events
  pub valid : IsValid state (accepted left)
