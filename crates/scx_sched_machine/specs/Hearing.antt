-- Calls that a hearer is told of, one after another.
use Rattle.std.specs.Prelude.{◌≡◌, List, [], ◌∷◌, Some}
use Rattle.scx_vm.specs.Programs.{VerifiedProgram}
use Rattle.scx_isa_semantics.specs.declared.callbacks.Callback.TheVariants as callback
use Rattle.scx_sched_policy.specs.Policy.{program_of}
use Rattle.scx_sched_machine.specs.Steps.{State, CallMade}
use Rattle.scx_sched_machine.specs.Callbacks.{IsAnswered}

-- each of these calls is answered, and from this state the hearer may, told of them in order, come
-- to that one
abbrev pub Hears : {T : Type 0} → (T → CallMade → T → Type 0) → T → List CallMade → T → Type 0
Hears hears s [] t = t ≡ s
Hears {T} hears s (c ∷ cs) t = (u : T) × IsAnswered c × hears s c u × Hears hears u cs t

-- where there is a dispatch to call, being told of a call may leave the hearer as it is
abbrev pub Untold : {T : Type 0} → (T → CallMade → T → Type 0) → T → State → Type 0
Untold hears t s =
    (p : VerifiedProgram) → program_of s.policy callback.Dispatch ≡ Some p
    → (c : CallMade) → hears t c t
