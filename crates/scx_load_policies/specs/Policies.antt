-- The content of a policy file: its name, the shapes of its maps, the time a task may wait, the
-- rules of the machine and its ticks, whether the host tracks idle CPUs, its timers, and its
-- programs.
use Rattle.std.specs.Prelude.{ℕ, Bool, ◌≡◌, ◌≤◌, List, map, filter, Option, None}
use Rattle.scx_maps.specs.declared.shape.Shape.{Shape}
use Rattle.scx_isa_semantics.specs.Code.{Code}
use Rattle.scx_isa_semantics.specs.declared.callbacks.Callback.{Callback}
use Rattle.scx_isa_semantics.specs.declared.rules.Rules.{Rules}
use Rattle.scx_isa_semantics.specs.declared.rules.Rules.TheVariants.{Plain, Linux}
use Rattle.scx_isa_semantics.specs.declared.per_callback.PerCallback.{PerCallback}
use Rattle.scx_isa_semantics.specs.Callbacks.{callback_name, callbacks, is_known_callback, at, with_at}

-- the programs of a policy file, one for each callback or none
abbrev pub Programs : Type 0
Programs = PerCallback (Option Code)

-- under plain rules there are no ticks; under Linux rules they are 100 ms apart at most
abbrev pub IsTick : Rules → ℕ → Type 0
IsTick Plain n = n ≡ 0
IsTick Linux n = n ≤ 100

-- a policy has at most 16 timers
abbrev pub max_timers : ℕ
max_timers = 16

-- what a policy file says: its name, maps, the milliseconds of its timeout, by whose rules the
-- machine goes, the milliseconds from tick to tick, whether idle CPUs are tracked beside
-- `update_idle`, the number of timers, and programs
pub record PolicyFile : Type 0 where
  pub name : List ℕ  -- empty where the file gives none
  pub shapes : List Shape
  pub timeout_ms : ℕ
  pub rules : Rules
  pub tick_ms : ℕ  -- 0 where slices end exactly
  pub keeps_idle : Bool
  pub timers : ℕ
  pub programs : Programs

-- the program of a callback
abbrev pub program_of : PolicyFile → Callback → Option Code
program_of p b = at p.programs b

-- the same without the program of that callback
abbrev pub without : PolicyFile → Callback → PolicyFile
without p b = record p { programs = with_at p.programs b None }

-- the callbacks that a policy by those rules may have, in the order of callbacks
abbrev pub callbacks_by : Rules → List Callback
callbacks_by rules = filter (λ b. is_known_callback b rules) callbacks

-- the keys of those callbacks, which are their names
abbrev pub callback_keys : Rules → List (List ℕ)
callback_keys rules = map callback_name (callbacks_by rules)
