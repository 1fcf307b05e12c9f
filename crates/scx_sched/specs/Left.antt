-- No task is left over: a processor is idle only where neither its own queue nor that of all
-- processors has a task for it, nor, once the policy is ejected, that of the built-in scheduler.
use Rattle.std.specs.Prelude.{◌≡◌, ℕ, zero, suc, ◌<◌, ⊤, true, false, length, Option, Some, None, is_some}
use Rattle.scx_sched_world.specs.Ids.{global, builtin_queue}
use Rattle.scx_sched_world.specs.CpuSets.{is_in_set}
use Rattle.scx_sched_world.specs.World.{WorldState, running, is_idle}
use Rattle.scx_sched_world.specs.Tasks.{local_len, next_for}
use Rattle.scx_sched_machine.specs.Steps.{State, Stepped, is_by_linux}
use Rattle.scx_sched_machine.specs.Rounds.{most_rounds, next_to_look, round, with_rounds}
use Rattle.scx_sched_machine.specs.declared.events.Event.{Event}
use Rattle.scx_sched_machine.specs.declared.events.Event.TheVariants.{Wake, Sleep, Tick, Clock, SetWeight, SetTaskWeight}

-- nobody is in the local queue, nor anybody who may run on the processor in the global one, or,
-- once the policy is ejected, in the built-in one
pub record LeavesNothing (w : WorldState) (c : ℕ) : Type 0 where
  pub local : local_len w c ≡ 0
  pub global : next_for w global c ≡ None
  pub builtin : is_some w.ejected ≡ true → next_for w builtin_queue c ≡ None

-- in the world after a tick; of other events nothing is said
abbrev pub LeavesNothingIdle : Event → WorldState → Type 0
LeavesNothingIdle (Tick c) w = running w c ≡ None → LeavesNothing w c
LeavesNothingIdle (Wake t) w = ⊤
LeavesNothingIdle (Sleep t) w = ⊤
LeavesNothingIdle Clock w = ⊤
LeavesNothingIdle (SetWeight g x) w = ⊤
LeavesNothingIdle (SetTaskWeight t x) w = ⊤

-- ---- by Linux rules

-- one round, and those after it; none where nobody is to look
abbrev pub made_then : (State → ℕ) → State → Option ℕ → ℕ
made_then next s None = 0
made_then next s (Some c) = suc (next (round s c).state)

-- how many rounds are made, at most that many
unfoldable pub rounds_made : ℕ → State → ℕ
rounds_made zero s = 0
rounds_made (suc n) s = made_then (λ r. rounds_made n r) s (next_to_look s)

-- no processor is to look for work: none is kicked, and no idle one has a task in its local queue
pub record NobodyLooks (w : WorldState) : Type 0 where
  pub kicked : (c : ℕ) → c < length w.cpus → is_in_set w.kicked c ≡ false
  pub local : (c : ℕ) → is_idle w c ≡ true → local_len w c ≡ 0

-- after an event, whatever its own steps are, that ends with the policy in force and made fewer
-- rounds than it may
abbrev pub RoundsLeaveNothing : Type 0
RoundsLeaveNothing =
    (r : Stepped)
    → is_by_linux (with_rounds r).state ≡ true → rounds_made most_rounds r.state < most_rounds
    → NobodyLooks (with_rounds r).state.world
