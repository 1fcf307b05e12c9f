-- Bounded wait: while its policy is in force, no task has waited longer than the policy
-- may let one wait.
use Rattle.std.specs.Prelude.{◌≡◌, ℕ, ◌≤◌, ◌||◌, Option, None, is_some}
use Rattle.scx_sched_world.specs.World.{WorldState, task_at, is_this, waits, wait}
use Rattle.scx_sched_machine.specs.Steps.{State}

-- while the policy is in force, no task has waited for longer than its timeout
abbrev pub IsTimely : State → Type 0
IsTimely s = s.world.ejected ≡ None → (t : ℕ) → wait s.world t ≤ s.policy.timeout_ms

-- who has a wait is in a queue and not parked, or is the task at hand
abbrev pub HasWaits : Option ℕ → WorldState → Type 0
HasWaits hand w = (t : ℕ) → is_some (task_at w t).since ≡ (waits w t || is_this t hand)
