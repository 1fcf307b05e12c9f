-- Why texts are refused whose workload, or file of events, is.
use Rattle.std.proofs.Common.{◌≡◌, ℕ, List, Ok}
use Rattle.scx_load_policies.specs.Policies.{PolicyFile}
use Rattle.scx_load_policies.specs.Reading.{policy_text}
use Rattle.scxsim_commands.specs.declared.refusal.Refusal.{Refusal}
use Rattle.scxsim_commands.specs.declared.refusal.Refusal.TheVariants.{TooLarge, NotUtf8, NoMemory, OutOfRange, NoSuchTask, TooManyStretches, Decode, Verify, Assemble, Callback, Policy, Workload, Events, Init}
use Rattle.scxsim_runs.specs.Runs.{IsWorkloadFault, IsCause}
use Rattle.scxsim_runs.specs.Replays.{IsEventsFault, IsReplayCause}

-- where the policy is read, what its workload is refused for is why both are
pub workload_cause : (policy workload : List ℕ) (file : PolicyFile) (r : Refusal) → policy_text policy ≡ Ok file → IsWorkloadFault file.rules workload r → IsCause policy workload r
workload_cause policy workload file (Workload path cause) read fault = record { file = file; policy_read = read; refused = fault }
workload_cause policy workload file NoMemory read fault = tt
workload_cause policy workload file TooLarge read fault = absurd fault
workload_cause policy workload file (OutOfRange word) read fault = absurd fault
workload_cause policy workload file NotUtf8 read fault = absurd fault
workload_cause policy workload file (Decode f slot) read fault = absurd fault
workload_cause policy workload file (Verify f slot) read fault = absurd fault
workload_cause policy workload file (Assemble f line) read fault = absurd fault
workload_cause policy workload file (Callback b f slot) read fault = absurd fault
workload_cause policy workload file (Policy path cause) read fault = absurd fault
workload_cause policy workload file (Events path cause) read fault = absurd fault
workload_cause policy workload file NoSuchTask read fault = absurd fault
workload_cause policy workload file (TooManyStretches n) read fault = absurd fault
workload_cause policy workload file (Init answer) read fault = absurd fault

-- where the policy is read, what its file of events is refused for is why both are
pub events_cause : (policy events : List ℕ) (file : PolicyFile) (r : Refusal) → policy_text policy ≡ Ok file → IsEventsFault file.rules events r → IsReplayCause policy events r
events_cause policy events file (Events path cause) read fault = record { file = file; policy_read = read; refused = fault }
events_cause policy events file NoMemory read fault = tt
events_cause policy events file TooLarge read fault = absurd fault
events_cause policy events file (OutOfRange word) read fault = absurd fault
events_cause policy events file NotUtf8 read fault = absurd fault
events_cause policy events file (Decode f slot) read fault = absurd fault
events_cause policy events file (Verify f slot) read fault = absurd fault
events_cause policy events file (Assemble f line) read fault = absurd fault
events_cause policy events file (Callback b f slot) read fault = absurd fault
events_cause policy events file (Policy path cause) read fault = absurd fault
events_cause policy events file (Workload path cause) read fault = absurd fault
events_cause policy events file NoSuchTask read fault = absurd fault
events_cause policy events file (TooManyStretches n) read fault = absurd fault
events_cause policy events file (Init answer) read fault = absurd fault
