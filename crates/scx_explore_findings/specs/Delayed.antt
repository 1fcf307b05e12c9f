-- Machines as they would be if they had begun later: all times are later by as much.
use Rattle.std.specs.Prelude.{◌≡◌, ℕ, ◌+◌, map, Bool, true, false, Option, Some, None}
use Rattle.scx_isa_semantics.specs.declared.callbacks.Callback.{Callback}
use Rattle.scx_isa_semantics.specs.declared.host_tables.Helper.{Helper}
use Rattle.scx_isa_semantics.specs.declared.host_tables.Helper.TheVariants.{KtimeGetNs}
use Rattle.scx_isa_semantics.specs.declared.instructions.Insn.{Insn}
use Rattle.scx_isa_semantics.specs.declared.instructions.Insn.TheVariants.{Call}
use Rattle.scx_isa_semantics.specs.Code.{Code, at}
use Rattle.scx_isa_semantics.specs.HostTables.{helper_at}
use Rattle.scx_weights.specs.Limits.{with_turn}
use Rattle.scx_vm.specs.Programs.{VerifiedProgram}
use Rattle.scx_sched_tasks.specs.declared.task.Task.{Task}
use Rattle.scx_sched_world.specs.declared.eject.Eject.{Eject}
use Rattle.scx_sched_world.specs.declared.eject.Eject.TheVariants as cause
use Rattle.scx_sched_world.specs.declared.notes.Note.{Note}
use Rattle.scx_sched_world.specs.declared.timers.Alarm.{Alarm}
use Rattle.scx_sched_world.specs.World.{WorldState, are_linux}
use Rattle.scx_sched_policy.specs.Policy.{PolicyState, program_of}
use Rattle.scx_sched_machine.specs.Steps.{State, CallMade, Stepped}
use Rattle.scx_sched_machine.specs.declared.events.Event.{Event}
use Rattle.scx_sched.specs.Sim.{SimState, refusal, after_event}
use Rattle.scx_explore_states.specs.Written.{past_tick}

-- ---- later times

-- that time, k milliseconds later
abbrev pub later_by : ℕ → Option ℕ → Option ℕ
later_by k None = None
later_by k (Some n) = Some (n + k)

-- a task that waits since k milliseconds later
abbrev pub delayed_task : ℕ → Task → Task
delayed_task k x = record x { since = later_by k x.since }

-- a timer that is due k milliseconds later, if it was started
abbrev pub delayed_alarm : ℕ → Option Alarm → Option Alarm
delayed_alarm k None = None
delayed_alarm k (Some a) = Some (record a { due = a.due + k })

-- an ejection k milliseconds later
abbrev pub later_eject : ℕ → Eject → Eject
later_eject k (cause.Stall t n) = cause.Stall t (n + k)
later_eject k (cause.Fault f n) = cause.Fault f (n + k)
later_eject k (cause.Exit c n) = cause.Exit c (n + k)

-- the same of an ejection, if there was one
abbrev pub delayed_eject : ℕ → Option Eject → Option Eject
delayed_eject k None = None
delayed_eject k (Some x) = Some (later_eject k x)

-- a note of k milliseconds later
abbrev pub delayed_note : ℕ → Note → Note
delayed_note k n = record n { clock = n.clock + k }

-- the world with all times k milliseconds later
abbrev pub delay : ℕ → WorldState → WorldState
delay k w = record w {
  clock = w.clock + k;
  tasks = map (delayed_task k) w.tasks;
  timers = map (delayed_alarm k) w.timers;
  ejected = delayed_eject k w.ejected;
  notes = map (delayed_note k) w.notes;
}

-- so of a machine
abbrev pub delay_state : ℕ → State → State
delay_state k s = record s { world = delay k s.world }

-- and of one with the number of its events
abbrev pub delay_machine : ℕ → SimState → SimState
delay_machine k s = record s { state = delay_state k s.state }

-- of a callback that is called
abbrev pub delay_call : ℕ → CallMade → CallMade
delay_call k c = record c { world = delay k c.world }

-- and of what a step comes to
abbrev pub delay_step : ℕ → Stepped → Stepped
delay_step k r = record {
  state = delay_state k r.state;
  notes = map (delayed_note k) r.notes;
  calls = map (delay_call k) r.calls;
}

-- ---- programs that read no clock

-- it is the helper that reads the clock; false where there is none
abbrev pub is_clock : Option Helper → Bool
is_clock (Some KtimeGetNs) = true
is_clock o = false

-- it is a call of that helper
abbrev pub reads_clock : Option Insn → Bool
reads_clock (Some (Call k)) = is_clock (helper_at k)
reads_clock o = false

-- no instruction of a program is such a call
abbrev pub IsClocklessBy : Code → Type 0
IsClocklessBy code = (slot : ℕ) → reads_clock (at code slot) ≡ false

-- nor of one, if there is one
abbrev pub IsClockless : Option VerifiedProgram → Type 0
IsClockless None = Unit {0}
IsClockless (Some p) = IsClocklessBy p.code

-- nor of any program of the policy
abbrev pub AreClockless : PolicyState → Type 0
AreClockless p = (b : Callback) → IsClockless (program_of p b)

-- ---- a law

-- periods of groups begin alike at any time, as where no group has used anything
abbrev pub IsSteady : State → Type 0
IsSteady s = (n m : ℕ) → with_turn s.world.tree n ≡ with_turn s.world.tree m

-- The later machine answers an event alike: it is refused for the same cause or accepted by both,
-- and the machine after it is the one after it, later.
pub record AnswersLater (k : ℕ) (s : SimState) (e : Event) : Type 0 where
  pub refusal : refusal s e ≡ refusal (delay_machine k s) e
  pub after : delay_machine k (after_event s e) ≡ after_event (delay_machine k s) e

-- by Linux rules the time is made of whole ticks; by plain rules, and where slices end exactly, any
-- time will do
abbrev pub IsWholeTicks : ℕ → State → Type 0
IsWholeTicks k s = are_linux s.world.rules ≡ true → past_tick s.policy.tick_ms k ≡ 0

-- so it is under a policy that reads no clock
abbrev pub EventsDontTellTimes : Type 0
EventsDontTellTimes =
    (k : ℕ) (s : SimState) (e : Event)
    → AreClockless s.state.policy
    → IsWholeTicks k s.state
    → IsSteady s.state
    → AnswersLater k s e
