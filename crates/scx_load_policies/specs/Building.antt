-- The result of `build` for a policy file: the policy of its programs, each verified as its
-- callback, or the first callback, in their order, whose program is refused.
use Rattle.std.specs.Prelude.{◌≡◌, ◌≢◌, ℕ, ⊤, List, [], ◌∷◌, Option, Some, None, option_map}
use Rattle.scx_isa_semantics.specs.Code.{Code}
use Rattle.scx_isa.specs.Flow.{Flows}
use Rattle.scx_isa_semantics.specs.declared.callbacks.Callback.{Callback}
use Rattle.scx_vm.specs.declared.context.Context.{Context}
use Rattle.scx_isa_semantics.specs.Callbacks.{at, earlier}
use Rattle.scx_verify.specs.declared.faults.Fault.{Fault}
use Rattle.scx_verify.specs.declared.faults.Fault.TheVariants.{NoMemory}
use Rattle.scx_vm.specs.Programs.{VerifiedProgram, context, by_rules}
use Rattle.scx_verify.specs.Typing.{IsTyped}
use Rattle.scx_verify.specs.Faults.{IsRefusal}
use Rattle.scx_sched_policy.specs.Policy as machine
use Rattle.scx_sched_policy.specs.Policy.{Programs, PolicyState}
use Rattle.scx_load_policies.specs.declared.building.BuildError.{BuildError}
use Rattle.scx_load_policies.specs.declared.building.BuildError.TheVariants as errors
use Rattle.scx_load_policies.specs.Policies.{PolicyFile, program_of}

-- the context in which the program of a callback is verified: the file's maps and rules
abbrev pub context_of : PolicyFile → Callback → Context
context_of text b = by_rules text.rules (context b text.shapes)

-- the program, if there is one, was verified in that context
abbrev pub IsIn : Context → Option VerifiedProgram → Type 0
IsIn context None = ⊤
IsIn context (Some p) = p.context ≡ context

-- the program, if there is one, has a typing in that context
abbrev pub IsAccepted : Context → Option Code → Type 0
IsAccepted context None = ⊤
IsAccepted context (Some code) = IsTyped context code

-- the program is refused in that context for this fault, at this slot
pub record IsRefusedFor (context : Context) (program : Option Code) (fault : Fault)
    (slot : ℕ) : Type 0 where
  pub code : Code
  pub there : program ≡ Some code
  pub refused : IsRefusal context code (record { fault = fault; slot = slot })
  pub known : fault ≢ NoMemory

-- of these callbacks each that has a program has one with a typing
abbrev pub AreAccepted : PolicyFile → List Callback → Type 0
AreAccepted text [] = ⊤
AreAccepted text (b ∷ bs) =
    IsAccepted (context_of text b) (program_of text b) × AreAccepted text bs

-- verifying a program asks for memory: it is there, and its flow has no fault
pub record AsksForMemory (program : Option Code) : Type 0 where
  pub code : Code
  pub there : program ≡ Some code
  pub flows : Flows code

-- memory is asked for a callback after others that are accepted
pub record IsStarved (text : PolicyFile) : Type 0 where
  pub callback : Callback
  pub before : AreAccepted text (earlier callback)
  pub asked : AsksForMemory (program_of text callback)

-- the first callback whose program is refused, or one for which there is no memory
abbrev pub IsFirstRefused : PolicyFile → BuildError → Type 0
IsFirstRefused text (errors.Refused b fault slot) =
    AreAccepted text (earlier b) × IsRefusedFor (context_of text b) (program_of text b) fault slot
IsFirstRefused text errors.NoMemory = IsStarved text

-- the code of a verified program
abbrev pub code_of : Option VerifiedProgram → Option Code
code_of v = option_map (λ p. p.code) v

-- the policy of these programs, which has them all, each verified as its callback, for these maps
-- and by these rules, with this timeout, these ticks and that number of timers; but for the seed of
-- its random numbers nothing of it is left open
pub record IsBuilt (text : PolicyFile) (policy : PolicyState) : Type 0 where
  pub shapes : policy.shapes ≡ text.shapes
  pub timeout : policy.timeout_ms ≡ text.timeout_ms
  pub rules : policy.rules ≡ text.rules
  pub ticks : policy.tick_ms ≡ text.tick_ms
  pub idle : policy.keeps_idle ≡ text.keeps_idle
  pub timers : policy.timers ≡ text.timers
  pub programs : (b : Callback) → code_of (machine.program_of policy b) ≡ program_of text b
  pub contexts : (b : Callback) → IsIn (context_of text b) (machine.program_of policy b)
  pub accepted : (b : Callback) → IsAccepted (context_of text b) (program_of text b)
  pub as_callbacks : machine.AreAs policy.callbacks
  pub for_maps : machine.HaveMaps policy.shapes policy.callbacks
  pub by_rules : machine.AreBy policy.rules policy.callbacks

-- ---- one callback

-- what `verify_by` makes of a program in that context
pub record IsVerified (context : Context) (program : Option Code) (v : Option VerifiedProgram) :
    Type 0 where
  pub code : code_of v ≡ program
  pub in_context : IsIn context v
  pub as_callback : machine.IsAs context.callback v
  pub for_maps : machine.HasMaps context.defs v
  pub by_rules : machine.IsBy context.rules v
  pub accepted : IsAccepted context program

-- `build` ends so at this callback: its program is refused, or verifying it asks for memory
abbrev pub IsRefusedAs : Context → Option Code → BuildError → Type 0
IsRefusedAs context program (errors.Refused b fault slot) =
    (b ≡ context.callback) × IsRefusedFor context program fault slot
IsRefusedAs context program errors.NoMemory = AsksForMemory program

-- ---- all callbacks

-- what `verify` makes of all programs, each at its callback
abbrev pub AreVerified : PolicyFile → Programs → Type 0
AreVerified text c =
    (b : Callback) → IsVerified (context_of text b) (program_of text b) (at c b)
