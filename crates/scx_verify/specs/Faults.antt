-- The meaning of a refusal, and the numbers and names of refusals: those of its flow, 1 to 4, then
-- those of the checks, 5 to 19, then out of memory, which says nothing of it but that its
-- flow has no fault, since memory is only asked for then.
use Rattle.std.specs.Prelude.{◌≡◌, ◌≢◌, ℕ, List, codes}
use Rattle.scx_vm.specs.declared.context.Context.{Context}
use Rattle.scx_isa_semantics.specs.Code.{Code}
use Rattle.scx_isa.specs.Faults.{flow_number, flow_name}
use Rattle.scx_isa.specs.Flow.{Flows, IsFirstFlowFault}
use Rattle.scx_abs.specs.Faults.{why_number, why_name}
use Rattle.scx_verify.specs.declared.faults.Fault.{Fault}
use Rattle.scx_verify.specs.declared.faults.Fault.TheVariants.{Flow, Rule, NoMemory}
use Rattle.scx_verify.specs.declared.faults.VerifyError.{VerifyError}
use Rattle.scx_verify.specs.Typing.{IsTyped}
use Rattle.scx_verify.specs.Forward.{IsFirstRefusal}

-- the number of a fault in a refusal, 1 to 20
abbrev pub fault_number : Fault → ℕ
fault_number (Flow fault) = flow_number fault
fault_number (Rule why) = why_number why
fault_number NoMemory = 20

-- the name of a fault in a refusal, that of the variant
abbrev pub fault_name : Fault → List ℕ
fault_name (Flow fault) = flow_name fault
fault_name (Rule why) = why_name why
fault_name NoMemory = codes "NoMemory"

-- a program is refused there for that fault: the first of its flow; else the first of its checks,
-- or want of memory, which is told at slot 0
abbrev pub IsReason : Context → Code → Fault → ℕ → Type 0
IsReason c code (Flow fault) slot = IsFirstFlowFault code fault slot
IsReason c code (Rule why) slot = Flows code × IsFirstRefusal c code why slot
IsReason c code NoMemory slot = Flows code × (slot ≡ 0)

-- the fault and the slot that are told are a reason to refuse the program
abbrev pub IsRefusal : Context → Code → VerifyError → Type 0
IsRefusal c code error = IsReason c code error.fault error.slot

-- what is refused for another cause than memory has no typing
abbrev pub IsJustified : Context → Code → VerifyError → Type 0
IsJustified c code error = error.fault ≢ NoMemory → IsTyped c code → ⊥
