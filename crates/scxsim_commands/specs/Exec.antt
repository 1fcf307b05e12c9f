-- The outcomes of `exec` on the bytes of a file: the run of the program that they spell, or why
-- they are refused.
use Rattle.std.specs.Prelude.{◌≢◌, ℕ, ◌<◌, ◌≤◌, List, [], length}
use Rattle.scx_isa_semantics.specs.declared.callbacks.Callback.TheVariants as callback
use Rattle.scx_isa_semantics.specs.Code.{Code}
use Rattle.scx_isa.specs.Spelling.{HasProgramLength, Spells}
use Rattle.scx_isa.specs.FirstFault.{IsFirstFault}
use Rattle.scx_vm.specs.declared.context.Context.{Context}
use Rattle.scx_verify.specs.declared.faults.Fault as verifier
use Rattle.scx_verify.specs.declared.faults.Fault.TheVariants as faults
use Rattle.scx_vm.specs.Programs.{context}
use Rattle.scx_verify.specs.Typing.{IsTyped}
use Rattle.scx_verify.specs.Faults.{IsReason}
use Rattle.scx_vm.specs.Alone.{RunsAlone}
use Rattle.scx_vm.specs.declared.ending.Done.{Done}
use Rattle.scxsim_commands.specs.declared.refusal.Refusal.{Refusal}
use Rattle.scxsim_commands.specs.declared.refusal.Refusal.TheVariants.{TooLarge, NoMemory, Decode, Verify}
use Rattle.scxsim_commands.specs.declared.file.TheConstants.{FILE_LIMIT}

-- a plain program with no maps
abbrev pub alone : Context
alone = context callback.Plain []

-- the bytes spell a program that the verifier accepts, and its run ends so
pub record HasRun (bytes : List ℕ) (done : Done) : Type 0 where
  pub code : Code
  pub spelled : Spells bytes code
  pub typed : IsTyped alone code
  pub run : RunsAlone code done

-- the bytes spell a program, which has that fault first; want of memory is none
pub record HasFault (bytes : List ℕ) (fault : verifier.Fault) (slot : ℕ) : Type 0 where
  pub code : Code
  pub spelled : Spells bytes code
  pub reason : IsReason alone code fault slot
  pub known : fault ≢ faults.NoMemory

-- The bytes are refused for that cause. Memory is asked for only where they are as many
-- as a program has.
abbrev pub IsExecCause : List ℕ → Refusal → Type 0
IsExecCause bytes TooLarge = FILE_LIMIT < length bytes
IsExecCause bytes NoMemory = HasProgramLength bytes
IsExecCause bytes (Decode fault slot) = (length bytes ≤ FILE_LIMIT) × IsFirstFault bytes fault slot
IsExecCause bytes (Verify fault slot) = (length bytes ≤ FILE_LIMIT) × HasFault bytes fault slot
IsExecCause bytes r = ⊥
