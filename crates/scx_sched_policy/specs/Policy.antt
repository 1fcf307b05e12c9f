-- Policies: a program for each callback, or none.
use Rattle.std.specs.Prelude.{◌≡◌, ℕ, ⊤, ◌≤◌, Bool, true, false, ◌&&◌, ◌||◌, not, List, Option, Some, None, is_some}
use Rattle.scx_maps.specs.declared.shape.Shape.{Shape}
use Rattle.scx_isa_semantics.specs.declared.callbacks.Callback.{Callback}
use Rattle.scx_isa_semantics.specs.declared.callbacks.Callback.TheVariants as callback
use Rattle.scx_isa_semantics.specs.declared.rules.Rules.{Rules}
use Rattle.scx_isa_semantics.specs.declared.rules.Rules.TheVariants.{Plain, Linux}
use Rattle.scx_isa_semantics.specs.declared.per_callback.PerCallback.{PerCallback}
use Rattle.scx_isa_semantics.specs.Callbacks.{at}
use Rattle.scx_vm.specs.Programs.{VerifiedProgram}
use Rattle.scx_sched_world.specs.World.{are_linux}
use Rattle.scx_sched_policy.specs.declared.policy.BadPolicy.{BadPolicy}
use Rattle.scx_sched_policy.specs.declared.policy.BadPolicy.TheVariants.{BadTimeout, OtherCallback, OtherMaps, OtherRules}

-- the programs of a policy, one for each callback or none
abbrev pub Programs : Type 0
Programs = PerCallback (Option VerifiedProgram)

-- a policy: the shapes of its maps, how many milliseconds a task may wait, by whose rules the
-- machine goes while it is in force, how many milliseconds there are from tick to tick (0 where
-- slices end exactly), whether the host tracks idle processors beside `update_idle`, how many
-- timers it has, where its random numbers begin, and its programs
pub record PolicyState : Type 0 where
  pub shapes : List Shape
  pub timeout_ms : ℕ
  pub rules : Rules
  pub tick_ms : ℕ
  pub keeps_idle : Bool
  pub timers : ℕ
  pub seed : ℕ
  pub callbacks : Programs

-- the policy by these rules, with these shapes of maps, that timeout in milliseconds, and these
-- programs; its slices end exactly, it has no timers, and its random numbers
-- begin at 0
abbrev pub policy_by : Rules → List Shape → ℕ → Programs → PolicyState
policy_by rules shapes timeout callbacks = record {
  shapes = shapes;
  timeout_ms = timeout;
  rules = rules;
  tick_ms = 0;
  keeps_idle = false;
  timers = 0;
  seed = 0;
  callbacks = callbacks;
}

-- the policy with ticks that many milliseconds apart
abbrev pub with_ticks : PolicyState → ℕ → PolicyState
with_ticks p n = record p { tick_ms = n }

-- the policy for which the host tracks idle processors, whatever callbacks it has
-- (`SCX_OPS_KEEP_BUILTIN_IDLE`)
abbrev pub with_idle_kept : PolicyState → PolicyState
with_idle_kept p = record p { keeps_idle = true }

-- the policy with that number of timers
abbrev pub with_timers : PolicyState → ℕ → PolicyState
with_timers p n = record p { timers = n }

-- the policy whose random numbers begin there
abbrev pub with_seed : PolicyState → ℕ → PolicyState
with_seed p n = record p { seed = n }

-- the policy by plain rules
abbrev pub policy_of : List Shape → ℕ → Programs → PolicyState
policy_of shapes timeout callbacks = policy_by Plain shapes timeout callbacks

-- the program of a callback
abbrev pub program_of : PolicyState → Callback → Option VerifiedProgram
program_of p b = at p.callbacks b

-- whether the host tracks idle processors: by Linux rules a policy with `update_idle` does so
-- itself (ext/idle.c, `scx_idle_enable`)
abbrev pub tracks_idle : PolicyState → Bool
tracks_idle p =
    p.keeps_idle || not (are_linux p.rules && is_some (program_of p callback.UpdateIdle))

-- ---- what a policy may not be made of

-- a policy lets a task wait for 1 to 30000 milliseconds
abbrev pub IsTimeout : ℕ → Type 0
IsTimeout n = (1 ≤ n) × (n ≤ 30000)

-- the program, if there is one, was verified as that callback
abbrev pub IsAs : Callback → Option VerifiedProgram → Type 0
IsAs b None = ⊤
IsAs b (Some p) = p.context.callback ≡ b

-- each program that there is was verified as the callback that it is kept for
abbrev pub AreAs : Programs → Type 0
AreAs c = (b : Callback) → IsAs b (at c b)

-- the program, if there is one, was verified for these maps
abbrev pub HasMaps : List Shape → Option VerifiedProgram → Type 0
HasMaps shapes None = ⊤
HasMaps shapes (Some p) = p.context.defs ≡ shapes

-- each program that there is was verified for maps of these shapes
abbrev pub HaveMaps : List Shape → Programs → Type 0
HaveMaps shapes c = (b : Callback) → HasMaps shapes (at c b)

-- the program, if there is one, was verified by those rules, or by plain ones: whatever plain rules
-- accept, Linux rules accept
abbrev pub IsBy : Rules → Option VerifiedProgram → Type 0
IsBy rules None = ⊤
IsBy Linux (Some p) = ⊤
IsBy Plain (Some p) = p.context.rules ≡ Plain

-- each program that there is was verified by rules that the policy may go by
abbrev pub AreBy : Rules → Programs → Type 0
AreBy rules c = (b : Callback) → IsBy rules (at c b)

-- of several causes the first
abbrev pub IsFault : Rules → List Shape → ℕ → Programs → BadPolicy → Type 0
IsFault rules shapes timeout c BadTimeout = ¬ IsTimeout timeout
IsFault rules shapes timeout c OtherCallback = IsTimeout timeout × ¬ AreAs c
IsFault rules shapes timeout c OtherMaps = IsTimeout timeout × AreAs c × ¬ HaveMaps shapes c
IsFault rules shapes timeout c OtherRules =
    IsTimeout timeout × AreAs c × HaveMaps shapes c × ¬ AreBy rules c
