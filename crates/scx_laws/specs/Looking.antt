-- A CPU that looks for a task, by plain rules or by Linux rules: its tick or the sleep of its task
-- makes it look, and by Linux rules a wake or a kick, as the event ends.
use Rattle.std.specs.Prelude.{◌≡◌, ℕ, ◌<◌, Bool, false, List, length, Option, None}
use Rattle.std.specs.List.{AllByRecursion}
use Rattle.scx_isa_semantics.specs.declared.callbacks.Callback.TheVariants as callback
use Rattle.scx_weights.specs.Limits.{has_quota}
use Rattle.scx_sched_world.specs.Ids.{global}
use Rattle.scx_sched_world.specs.World.{WorldState, running}
use Rattle.scx_sched_world.specs.Tasks.{local_len, next_for}
use Rattle.scx_sched_policy.specs.Policy.{PolicyState, program_of}
use Rattle.scx_sched_machine.specs.Steps.{State}
use Rattle.scx_sched_machine.specs.Cycle.{cycle}
use Rattle.scx_sched_machine.specs.Rounds.{round}
use Rattle.scx_sched.specs.Ranges.{IsFine}
use Rattle.scx_laws.specs.Serving.{ServesQueues}

-- the policy has neither `dequeue` nor `update_idle`, which Linux rules call as a CPU looks
pub record HearsNothing (p : PolicyState) : Type 0 where
  pub dequeue : program_of p callback.Dequeue ≡ None
  pub update_idle : program_of p callback.UpdateIdle ≡ None

-- no task that may run on the CPU waits in these queues or in the global one, and none in its own
pub record NobodyMayRun (qs : List ℕ) (w : WorldState) (c : ℕ) : Type 0 where
  pub served : AllByRecursion (λ q. next_for w q c ≡ None) qs
  pub local : local_len w c ≡ 0
  pub global : next_for w global c ≡ None

-- the CPU is idle only if none does, while the policy is in force
abbrev pub IdlesIfNobodyMayRun : List ℕ → WorldState → ℕ → Type 0
IdlesIfNobodyMayRun qs w c = w.ejected ≡ None → running w c ≡ None → NobodyMayRun qs w c

-- without quotas, in any sound state: so it is once a CPU on which that task ran, or none, has
-- looked for a task
abbrev pub LookingFindsATask : Type 0
LookingFindsATask =
    (qs : List ℕ) (n e m : ℕ) (s : State) (c : ℕ) (p : Option ℕ) (ran : Bool)
    → ServesQueues qs s.policy
    → HearsNothing s.policy
    → has_quota s.world.tree.groups ≡ false
    → IsFine n e m None s.world.cpus s.world
    → c < length s.world.cpus
    → running s.world c ≡ p
    → IdlesIfNobodyMayRun qs (cycle s c p ran).state.world c

-- and once a CPU has looked that was woken or kicked
abbrev pub WokenFindsATask : Type 0
WokenFindsATask =
    (qs : List ℕ) (n e m : ℕ) (s : State) (c : ℕ)
    → ServesQueues qs s.policy
    → HearsNothing s.policy
    → has_quota s.world.tree.groups ≡ false
    → IsFine n e m None s.world.cpus s.world
    → c < length s.world.cpus
    → IdlesIfNobodyMayRun qs (round s c).state.world c
