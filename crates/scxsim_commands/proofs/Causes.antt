-- Why a program that the verifier refuses is refused.
use Rattle.std.proofs.Common.{◌≡◌, ℕ, ◌≤◌, List, [], length}
use Rattle.scx_isa_semantics.specs.declared.callbacks.Callback.TheVariants.{Plain}
use Rattle.scx_isa_semantics.specs.Code.{Code}
use Rattle.scx_isa.specs.Spelling.{Spells}
use Rattle.scx_isa.proofs.Programs.{program_has_length}
use Rattle.scx_maps.specs.declared.shape.Shape.{Shape}
use Rattle.scx_verify.specs.declared.faults.Fault.{Fault}
use Rattle.scx_verify.specs.declared.faults.Fault.TheVariants.{Flow, Rule, NoMemory}
use Rattle.scx_verify.specs.declared.faults.VerifyError.{VerifyError}
use Rattle.scx_vm.specs.Programs.{context}
use Rattle.scx_verify.specs.Faults.{IsReason, IsRefusal}
use Rattle.scxsim_commands.specs.declared.refusal.Refusal.{Refusal}
use Rattle.scxsim_commands.specs.declared.file.TheConstants.{FILE_LIMIT}
use Rattle.scxsim_commands.specs.Refusals.{fault_refusal, verify_refusal}
use Rattle.scxsim_commands.specs.Exec.{alone, IsExecCause}

fault_cause : (bytes : List ℕ) (code : Code) (fault : Fault) (slot : ℕ) → length bytes ≤ FILE_LIMIT → Spells bytes code → IsReason alone code fault slot → IsExecCause bytes (fault_refusal fault slot)
fault_cause bytes code (Flow f) slot fits spelled reason = (fits, record { code = code; spelled = spelled; reason = reason; known = λ e. absurd (cc) })
fault_cause bytes code (Rule why) slot fits spelled reason = (fits, record { code = code; spelled = spelled; reason = reason; known = λ e. absurd (cc) })
fault_cause bytes code NoMemory slot fits spelled reason = program_has_length bytes code spelled

-- its refusal has the verifier as its cause
pub verify_cause : (bytes : List ℕ) (code : Code) (shapes : List Shape) (error : VerifyError) (refusal : Refusal) → length bytes ≤ FILE_LIMIT → Spells bytes code → shapes ≡ []
    → IsRefusal (context Plain shapes) code error → refusal ≡ verify_refusal error → IsExecCause bytes refusal
verify_cause bytes code shapes error refusal fits spelled none refused is = rw is (fault_cause bytes code error.fault error.slot fits spelled (rw none at refused))
