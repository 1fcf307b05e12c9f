-- What is judged callback by callback gives the verdicts of a policy, or asks for memory at one of them.
use Rattle.std.proofs.Common.{◌≡◌, Option, Some, None, Result, Ok, Err, IfOk, IfErr, OnErr}
use denote.Param.Members.{Shared}
use Rattle.std.specs.Fn.{FnReturns}
use Rattle.scx_isa_semantics.specs.Code.{Code}
use Rattle.scx_isa_semantics.specs.declared.callbacks.Callback.{Callback}
use Rattle.scx_isa_semantics.specs.Callbacks.{at, Made, Failed, FirstFailed}
use Rattle.scxsim_commands.specs.declared.refusal.Refusal.{Refusal}
use Rattle.scxsim_commands.specs.declared.refusal.Refusal.TheVariants.{NoMemory}
use Rattle.scx_load_policies.specs.Building.{context_of, AsksForMemory}
use Rattle.scx_load_policies.specs.Policies.{PolicyFile, program_of}
use Rattle.scxsim_commands.specs.declared.verdict.Verdict.{Verdict}
use Rattle.scxsim_commands.specs.Verdicts.{IsVerdict, IsVerdictOf, Verdicts, HasVerdicts}

-- what a function makes of programs
module _ {F : Type 0} (g : Shared F (Callback × (Code × Unit {0})) (Result Verdict Refusal)) (f : F) (policy : PolicyFile) where
  -- what it answers of a program is the verdict on it
  abbrev pub Judges : Type 0
  Judges = (b : Callback) (x : Code) (v : Verdict) → FnReturns g f (b, (x, tt)) (Ok v) → IsVerdict (context_of policy b) x v

  -- where it fails memory ran out, for which the program asks
  abbrev pub Asks : Type 0
  Asks = (b : Callback) (x : Code) (e : Refusal) → FnReturns g f (b, (x, tt)) (Err e) → (e ≡ NoMemory) × AsksForMemory (Some x)

  verdict_at : Judges → (b : Callback) (p : Option Code) (v : Option Verdict) → Made g f b p v → IsVerdictOf (context_of policy b) p v
  verdict_at judges b None None made = tt
  verdict_at judges b None (Some v) made = absurd made
  verdict_at judges b (Some x) None made = absurd made
  verdict_at judges b (Some x) (Some v) made = judges b x v made

  -- where all were made they are the verdicts
  pub all_judged : (result : Result Verdicts Refusal) → IfOk result (λ vs. (b : Callback) → Made g f b (program_of policy b) (at vs b)) → Judges → IfOk result (HasVerdicts policy)
  all_judged (Ok vs) made judges = λ b. verdict_at judges b (program_of policy b) (at vs b) (made b)
  all_judged (Err e) made judges = tt

  failed_at : Asks → (b : Callback) (p : Option Code) (e : Refusal) → Failed g f b p e → (e ≡ NoMemory) × AsksForMemory p
  failed_at asks b None e failed = absurd failed
  failed_at asks b (Some x) e failed = asks b x e failed

  -- it fails for want of memory alone
  pub no_memory : (result : Result Verdicts Refusal) → IfErr result (FirstFailed g f policy.programs) → Asks → IfErr result (λ refusal. refusal ≡ NoMemory)
  no_memory (Ok vs) failed asks = tt
  no_memory (Err e) first asks = (failed_at asks first.callback (program_of policy first.callback) e first.failed).0

  -- and where a program asks for it
  pub asked : (result : Result Verdicts Refusal) → IfErr result (FirstFailed g f policy.programs) → Asks → OnErr result ((b : Callback) × AsksForMemory (program_of policy b))
  asked (Ok vs) failed asks = tt
  asked (Err e) first asks = (first.callback, (failed_at asks first.callback (program_of policy first.callback) e first.failed).1)
