-- A bound on waiting: one CPU, and a policy of one line.
use Rattle.std.specs.Prelude.{◌≡◌, ℕ, ⊤, ◌+◌, ◌-◌, ◌*◌, ◌/◌, ◌<◌, ◌≤◌, max, Bool, true, false, ◌==◌, ◌||◌, List, [], ◌∷◌, length, None}
use Rattle.scx_weights.specs.Hierarchy.{Hierarchy}
use Rattle.scx_weights.specs.Limits.{has_quota}
use Rattle.scx_isa_semantics.specs.declared.callbacks.Callback.TheVariants as callback
use Rattle.scx_isa_semantics.specs.declared.rules.Rules.TheVariants.{Plain}
use Rattle.scx_sched_tasks.specs.Tasks.{default_slice}
use Rattle.scx_sched_world.specs.World.{wait}
use Rattle.scx_sched_world.specs.Tasks.{tick_ns}
use Rattle.scx_sched_machine.specs.declared.events.Event.{Event}
use Rattle.scx_sched_machine.specs.declared.events.Event.TheVariants.{Tick, Clock}
use Rattle.scx_sched_policy.specs.Policy.{PolicyState, program_of}
use Rattle.scx_sched.specs.Sim.{SimState}
use Rattle.scx_laws.specs.Runs.{IsBegun, after_events}
use Rattle.scx_laws.specs.Lines.{IsLine}

-- the ticks that a slice lasts
abbrev pub ticks_of : ℕ → ℕ
ticks_of slice = (slice + (tick_ns - 1)) / tick_ns

-- the milliseconds that one of the tasks waits at most: each other but the one that runs has a
-- slice before it, and that one may have the default slice, which a task gets that runs on alone
abbrev pub longest_wait : ℕ → ℕ → ℕ
longest_wait tasks slice =
    (tasks - 2) * ticks_of slice + max (ticks_of slice) (ticks_of default_slice)

-- CPU 0 ticks between any two clocks, and before the first one unless it has ticked
abbrev pub HasTicks : Bool → List Event → Type 0
HasTicks ticked [] = ⊤
HasTicks ticked (Tick c ∷ es) = HasTicks (ticked || c == 0) es
HasTicks ticked (Clock ∷ es) = (ticked ≡ true) × HasTicks false es
HasTicks ticked (e ∷ es) = HasTicks ticked es

-- each millisecond has a tick of CPU 0, and then the clock
abbrev pub HasTickAndClock : List Event → Type 0
HasTickAndClock es = HasTicks false es

-- a machine with one CPU before any event, by plain rules and without quotas, under a policy
-- of one line without select_cpu, that lets tasks wait for as long as one of them may have to
pub record IsPatientLine (slice : ℕ) (p : PolicyState) (tree : Hierarchy) (s : SimState)
    : Type 0 where
  pub begun : IsBegun p tree 1 s
  pub line : IsLine slice p
  pub chooses_none : program_of p callback.SelectCpu ≡ None
  pub some : 0 < slice
  pub ends : slice < 0xffff_ffff_ffff_ffff
  pub rules : p.rules ≡ Plain
  pub free : has_quota tree.groups ≡ false
  pub timeout : longest_wait (length tree.homes) slice ≤ p.timeout_ms

-- in a list of events in which each millisecond has a tick and a clock, no task waits longer than
-- that
abbrev pub WaitsAtMost : Type 0
WaitsAtMost =
    (slice : ℕ) (p : PolicyState) (tree : Hierarchy) (s : SimState) (events : List Event) (t : ℕ)
    → IsPatientLine slice p tree s
    → HasTickAndClock events
    → wait (after_events s events).state.world t ≤ longest_wait (length tree.homes) slice

-- so the policy stays in force
abbrev pub StaysInForce : Type 0
StaysInForce =
    (slice : ℕ) (p : PolicyState) (tree : Hierarchy) (s : SimState) (events : List Event)
    → IsPatientLine slice p tree s
    → HasTickAndClock events
    → (after_events s events).state.world.ejected ≡ None
