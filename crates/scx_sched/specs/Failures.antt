-- Why the machine of a policy can't begin: its init, enable or `set_weight` of a task, or
-- `update_idle` of a processor called `exit` or had a fault, or init answered a number that isn't
-- 0.
use Rattle.std.specs.Prelude.{◌≡◌, ℕ, ℤ, ⊤, List, None}
use Rattle.std.specs.Int.{w64, cast_signed}
use Rattle.scx_isa_semantics.specs.declared.callbacks.Callback.TheVariants.{Init}
use Rattle.scx_weights.specs.Hierarchy.{Hierarchy}
use Rattle.scx_sched_world.specs.declared.faults.Fault.{Fault}
use Rattle.scx_sched_world.specs.World.{WorldState}
use Rattle.scx_sched_machine.specs.declared.start.NewError.{NewError}
use Rattle.scx_sched_machine.specs.declared.start.NewError.TheVariants.{InitFailed, BadShape, OutOfMemory}
use Rattle.scx_sched_policy.specs.Policy.{PolicyState}
use Rattle.scx_sched_machine.specs.Steps.{CallMade}
use Rattle.scx_sched_machine.specs.Start.{fault_answer, start_calls}
use Rattle.scx_sched.specs.Causes.{EndsIn, HasFault, HasExit, IsLast, IsAmong}

-- the callback failed, which that number tells: the code of its exit, -22 for a fault, or its
-- answer
pub data Fails (m : CallMade) (n : ℤ) : Type 0 where
  With_exit : HasExit m n → Fails m n
  With_fault : (f : Fault) → HasFault m f → n ≡ fault_answer → Fails m n
  With_answer : (answer : ℕ) (w : WorldState)
      → EndsIn m answer w → w.call.cause ≡ None → m.callback ≡ Init → (answer ≡ 0 → ⊥)
      → n ≡ cast_signed w64 answer → Fails m n

-- the last callback that was called as the machine began failed so
abbrev pub HasFailed : PolicyState → Hierarchy → ℕ → NewError → Type 0
HasFailed p tree cpus BadShape = ⊤
HasFailed p tree cpus OutOfMemory = ⊤
HasFailed p tree cpus (InitFailed n) =
    (m : CallMade) × IsLast m (start_calls p tree cpus) × Fails m n

-- none of these callbacks failed
abbrev pub NoneFails : List CallMade → Type 0
NoneFails calls = (m : CallMade) (n : ℤ) → IsAmong m calls → Fails m n → ⊥
