-- The refusals of errors of decoding, of verifying, of assembling, of reading files and of building
-- policies.
use Rattle.std.specs.Prelude.{ℕ}
use Rattle.scx_isa.specs.declared.faults.DecodeError.{DecodeError}
use Rattle.scx_isa.specs.declared.faults.DecodeError.TheVariants as errors
use Rattle.scx_verify.specs.declared.faults.Fault as verifier
use Rattle.scx_verify.specs.declared.faults.Fault.TheVariants as fault
use Rattle.scx_verify.specs.declared.faults.VerifyError.{VerifyError}
use Rattle.scx_asm.specs.declared.faults.AsmError.{AsmError}
use Rattle.scx_asm.specs.declared.faults.AsmError.TheVariants as asm
use Rattle.scx_load_files.specs.declared.fault.LoadError.{LoadError}
use Rattle.scx_load_files.specs.declared.fault.LoadError.TheVariants as load
use Rattle.scx_load_policies.specs.declared.building.BuildError.{BuildError}
use Rattle.scx_load_policies.specs.declared.building.BuildError.TheVariants as build
use Rattle.scxsim_commands.specs.declared.refusal.FileKind.{FileKind}
use Rattle.scxsim_commands.specs.declared.refusal.FileKind.TheVariants as kinds
use Rattle.scxsim_commands.specs.declared.refusal.Refusal.{Refusal}
use Rattle.scxsim_commands.specs.declared.refusal.Refusal.TheVariants.{NoMemory, Decode, Verify, Assemble, Callback, Policy, Workload, Events}

-- why bytes aren't decoded: their first fault and its slot, or want of memory
abbrev pub decode_refusal : DecodeError → Refusal
decode_refusal (errors.Refused fault slot) = Decode fault slot
decode_refusal errors.OutOfMemory = NoMemory

-- why `verify` refuses a program: a fault and its slot, or want of memory, which has no slot
abbrev pub fault_refusal : verifier.Fault → ℕ → Refusal
fault_refusal fault.NoMemory slot = NoMemory
fault_refusal f slot = Verify f slot

-- why a program isn't accepted: the verifier's fault and its slot, or want of memory
abbrev pub verify_refusal : VerifyError → Refusal
verify_refusal e = fault_refusal e.fault e.slot

-- why a text isn't assembled: its first fault and the line, or want of memory
abbrev pub asm_refusal : AsmError → Refusal
asm_refusal (asm.Refused fault line) = Assemble fault line
asm_refusal asm.OutOfMemory = NoMemory

-- why a policy isn't built: the callback refused first, its fault and the slot, or no memory
abbrev pub build_refusal : BuildError → Refusal
build_refusal (build.Refused callback fault slot) = Callback callback fault slot
build_refusal build.NoMemory = NoMemory

-- why a file of that kind isn't read: the path of its first fault and the cause, or no memory
abbrev pub file_refusal : FileKind → LoadError → Refusal
file_refusal kind load.NoMemory = NoMemory
file_refusal kinds.Policy (load.At path cause) = Policy path cause
file_refusal kinds.Workload (load.At path cause) = Workload path cause
file_refusal kinds.Events (load.At path cause) = Events path cause
