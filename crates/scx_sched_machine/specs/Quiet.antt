-- Milliseconds in which nothing happens but that tasks run and the clock grows.
use Rattle.std.specs.Prelude.{◌≡◌, ℕ, ◌+◌, ◌&&◌, ◌<◌, true, false, length, None, is_some}
use Rattle.scx_isa_semantics.specs.declared.callbacks.Callback.TheVariants as callback
use Rattle.scx_dsq.specs.Queues.{len_of}
use Rattle.scx_weights.specs.Limits.{has_quota}
use Rattle.scx_sched_world.specs.Ids.{parked_queue}
use Rattle.scx_sched_world.specs.World.{running}
use Rattle.scx_sched_world.specs.Quiet as world
use Rattle.scx_sched_world.specs.Quiet.{SlicesLast, StaysCalm}
use Rattle.scx_sched_policy.specs.Policy.{program_of}
use Rattle.scx_sched_machine.specs.Steps.{State, with_world, is_by_linux}
use Rattle.scx_sched_machine.specs.Rounds.{next_to_look}
use Rattle.scx_sched_machine.specs.Cycle.{stays_idle}

-- a CPU on which no task runs finds none: under Linux rules it looks for none by itself
abbrev pub FindsNone : State → ℕ → Type 0
FindsNone s c = is_by_linux s ≡ false → running s.world c ≡ None → stays_idle s c ≡ true

-- the policy is in force and hears of no tick, no task may be throttled or is parked, and no CPU
-- finds a task
pub record IsAtRest (s : State) : Type 0 where
  pub force : s.world.ejected ≡ None
  pub free : has_quota s.world.tree.groups ≡ false
  pub parked : len_of s.world.queues parked_queue ≡ 0
  pub unheard : (is_by_linux s && is_some (program_of s.policy callback.Tick)) ≡ false
  pub unasked : next_to_look s ≡ None
  pub idle : (c : ℕ) → c < length s.world.cpus → FindsNone s c

-- in that many milliseconds no task wakes, sleeps, is replaced, parked or let go, no callback runs
-- but a dispatch that asks in vain, and nothing is noted, if no event comes but ticks and the clock
pub record IsQuiet (n : ℕ) (s : State) : Type 0 where
  pub rest : IsAtRest s
  pub slices : SlicesLast n s.world
  pub calm : StaysCalm s.world s.policy.timeout_ms (s.world.clock + n)

-- the machine after that many such milliseconds
abbrev pub skipped : ℕ → State → State
skipped n s = with_world s (world.skipped n s.world)
