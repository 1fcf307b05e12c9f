-- A tick counts the slice of the task of its CPU down, if it ends, and its run time up. By plain
-- rules it changes nothing else until a slice ends, if no program loads these.
use Rattle.std.specs.Prelude.{◌≡◌, ℕ, ◌==◌, Bool, true, false, List, map, if◌then◌else◌, None, Some, IfSome, ◌⊎◌}
use Rattle.scx_isa_semantics.specs.declared.callbacks.Callback.{Callback}
use Rattle.scx_isa_semantics.specs.declared.host_tables.Field.{Field}
use Rattle.scx_isa_semantics.specs.declared.host_tables.Field.TheVariants.{Slice, RunNs}
use Rattle.scx_isa_semantics.specs.Code.{Code}
use Rattle.scx_isa_semantics.specs.Effects.{Query, Load}
use Rattle.scx_sched_tasks.specs.declared.task.Task.{Task}
use Rattle.scx_sched_world.specs.Tasks.{counted_down, used_ms}
use Rattle.scx_sched_world.specs.World.{WorldState, are_linux, task_at, is_throttled, running}
use Rattle.scx_sched_machine.specs.declared.events.Event.{Event}
use Rattle.scx_sched_machine.specs.declared.events.Event.TheVariants.{Tick}
use Rattle.scx_sched_machine.specs.Steps.{State, with_world}
use Rattle.scx_sched.specs.Sim.{SimState, refusal, after_event, max_events}
use Rattle.scx_explore_states.specs.Rows.{is_endless}
use Rattle.scx_explore_findings.specs.Asked.{AsksAnyhow, AskAnyhow}
use Rattle.scx_explore_findings.specs.Hidden.{with_tasks}
use Rattle.scx_explore_findings.specs.Unread.{LoadsNone}

-- ---- worlds

-- 0 for each slice that ends, and the same for all that never end
abbrev pub uncounted_slice : ℕ → ℕ
uncounted_slice n = if is_endless n then 0xffff_ffff_ffff_ffff else 0

-- the record of a task without what ticks count
abbrev pub uncounted : Task → Task
uncounted x = record x { slice = uncounted_slice x.slice; run_ns = 0 }

-- the same of each of them
abbrev pub all_uncounted : List Task → List Task
all_uncounted xs = map uncounted xs

-- the world without what ticks count
abbrev pub without_counts : WorldState → WorldState
without_counts w = with_tasks w (all_uncounted w.tasks)

-- the state of a machine with such a world
abbrev pub uncounted_state : State → State
uncounted_state s = record s { world = without_counts s.world }

-- two machines are the same but for what ticks count, and for how many events there were
abbrev pub AreSame : SimState → SimState → Type 0
AreSame s t = uncounted_state s.state ≡ uncounted_state t.state

-- ---- programs

-- the field of a task is one that ticks count
abbrev pub is_counted : Field → Bool
is_counted Slice = true
is_counted RunNs = true
is_counted f = false

-- a query loads no such field
abbrev pub LoadsNoCount : Query → Type 0
LoadsNoCount (Load t f) = is_counted f ≡ false
LoadsNoCount q = Unit {0}

-- a program with no load of the bytes at which a slice or a run time lies, of 8 bytes at offset 8
-- or 32, loads no such field, whatever it is given and answered
abbrev pub SuchProgramsLoadNoCount : Type 0
SuchProgramsLoadNoCount =
    (c : Callback) (code : Code) → LoadsNone is_counted code → AsksAnyhow LoadsNoCount c code

-- ---- slices

-- one more tick uses the slice up
abbrev pub is_last : ℕ → Bool
is_last n = counted_down n == 0

-- the slice of the task never ends, or the next tick uses it up in both worlds
abbrev pub EndAlike : WorldState → WorldState → ℕ → Type 0
EndAlike v w t =
    (is_endless (task_at v t).slice ≡ true)
    ⊎ ((is_last (task_at v t).slice ≡ true) × (is_last (task_at w t).slice ≡ true))

-- ---- laws

-- plain rules, with a policy in force of which no program loads what ticks count, and room for one
-- event more
pub record IsInForcePlainly (s : SimState) : Type 0 where
  pub rules : are_linux s.state.world.rules ≡ false
  pub force : s.state.world.ejected ≡ None
  pub told : AskAnyhow LoadsNoCount s.state.policy
  pub room : (s.events == max_events) ≡ false

-- any event but a tick of a CPU whose task goes on in one of both machines
abbrev pub IsMet : SimState → SimState → Event → Type 0
IsMet s t (Tick c) = IfSome (running s.state.world c) (EndAlike s.state.world t.state.world)
IsMet s t e = Unit {0}

-- Both answer an event alike: it is refused for the same cause or accepted by both, and after it
-- the policy is out of force for the same cause in both, or in force and the machines are the same
-- again but for what ticks count.
pub record AnswersAlike (s t : SimState) (e : Event) : Type 0 where
  pub refusal : refusal s e ≡ refusal t e
  pub ejected :
      (after_event s e).state.world.ejected ≡ (after_event t e).state.world.ejected
  pub after :
      (after_event s e).state.world.ejected ≡ None → AreSame (after_event s e) (after_event t e)

-- so two such machines do
abbrev pub CountsChangeNothing : Type 0
CountsChangeNothing =
    (s t : SimState) (e : Event)
    → IsInForcePlainly s
    → (t.events == max_events) ≡ false
    → AreSame s t
    → IsMet s t e
    → AnswersAlike s t e

-- a tick of a CPU whose task goes on, and may, changes nothing but what it counts, and what groups
-- have used
abbrev pub TicksOnlyCount : Type 0
TicksOnlyCount =
    (s : SimState) (c t : ℕ)
    → IsInForcePlainly s
    → refusal s (Tick c) ≡ None
    → running s.state.world c ≡ Some t
    → is_last (task_at s.state.world t).slice ≡ false
    → is_throttled (used_ms s.state.world t) t ≡ false
    → uncounted_state (after_event s (Tick c)).state
    ≡ uncounted_state (with_world s.state (used_ms s.state.world t))
