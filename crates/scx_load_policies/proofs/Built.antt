-- What is verified callback by callback is all verified, or is refused at the first that isn't safe.
use Rattle.std.proofs.Common.{List, [], ◌∷◌, Option, Some, None, Result, Ok, Err, IfOk, IfErr, refl}
use denote.Param.Members.{Shared}
use Rattle.std.specs.Fn.{FnReturns}
use Rattle.scx_isa_semantics.specs.Code.{Code}
use Rattle.scx_isa_semantics.specs.declared.callbacks.Callback.{Callback}
use Rattle.scx_isa_semantics.specs.Callbacks.{at, earlier, Made, MadeEach, Failed, FirstFailed}
use Rattle.scx_vm.specs.Programs.{VerifiedProgram}
use Rattle.scx_sched_policy.specs.Policy.{Programs}
use Rattle.scx_load_policies.specs.declared.building.BuildError.{BuildError}
use Rattle.scx_load_policies.specs.declared.building.BuildError.TheVariants as errors
use Rattle.scx_load_policies.specs.Policies.{PolicyFile, program_of}
use Rattle.scx_load_policies.specs.Building.{context_of, AreAccepted, IsFirstRefused, IsVerified, AreVerified, IsRefusedAs}

-- the first that is refused is the refusal
refused_at : (text : PolicyFile) (b : Callback) (e : BuildError) → AreAccepted text (earlier b) → IsRefusedAs (context_of text b) (program_of text b) e → IsFirstRefused text e
refused_at text b (errors.Refused a fault slot) before (is, refused) = rw is (before, refused)
refused_at text b errors.NoMemory before asked = record { callback = b; before = before; asked = asked }

-- what a function makes of programs
module _ {F : Type 0} (g : Shared F (Callback × (Code × Unit {0})) (Result VerifiedProgram BuildError)) (f : F) (text : PolicyFile) where
  -- what it answers of a program is its verification
  abbrev pub Verifies : Type 0
  Verifies = (b : Callback) (x : Code) (v : VerifiedProgram) → FnReturns g f (b, (x, tt)) (Ok v) → IsVerified (context_of text b) (Some x) (Some v)

  -- or its refusal
  abbrev pub Refuses : Type 0
  Refuses = (b : Callback) (x : Code) (e : BuildError) → FnReturns g f (b, (x, tt)) (Err e) → IsRefusedAs (context_of text b) (Some x) e

  -- one that was made is verified
  verified_at : Verifies → (b : Callback) (p : Option Code) (v : Option VerifiedProgram) → Made g f b p v → IsVerified (context_of text b) p v
  verified_at verifies b None None made = record { code = refl; in_context = tt; as_callback = tt; for_maps = tt; by_rules = tt; accepted = tt }
  verified_at verifies b None (Some v) made = absurd made
  verified_at verifies b (Some x) None made = absurd made
  verified_at verifies b (Some x) (Some v) made = verifies b x v made

  -- where all were made all are verified
  pub all_verified : (result : Result Programs BuildError) → IfOk result (λ c. (b : Callback) → Made g f b (program_of text b) (at c b)) → Verifies → IfOk result (AreVerified text)
  all_verified (Ok c) made verifies = λ b. verified_at verifies b (program_of text b) (at c b) (made b)
  all_verified (Err e) made verifies = tt

  -- of each of which one was made the program is accepted
  accepted_each : Verifies → (bs : List Callback) → MadeEach g f text.programs bs → AreAccepted text bs
  accepted_each verifies [] made = tt
  accepted_each verifies (b ∷ bs) ((v, made), more) = ((verified_at verifies b (program_of text b) v made).accepted, accepted_each verifies bs more)

  failed_at : Refuses → (b : Callback) (p : Option Code) (e : BuildError) → Failed g f b p e → IsRefusedAs (context_of text b) p e
  failed_at refuses b None e failed = absurd failed
  failed_at refuses b (Some x) e failed = refuses b x e failed

  -- the first at which it failed is refused
  pub first_refused : (result : Result Programs BuildError) → IfErr result (FirstFailed g f text.programs) → Verifies → Refuses → IfErr result (IsFirstRefused text)
  first_refused (Ok c) failed verifies refuses = tt
  first_refused (Err e) first verifies refuses = refused_at text first.callback e (accepted_each verifies (earlier first.callback) first.before) (failed_at refuses first.callback (program_of text first.callback) e first.failed)
