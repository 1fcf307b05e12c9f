-- The texts of a policy file and of a workload file say a run together, or are refused.
use Rattle.std.specs.Prelude.{◌≡◌, ℕ, ℤ, List, ⊤, Ok, Err, string_bytes}
use Rattle.scx_isa_semantics.specs.declared.callbacks.Callback as callbacks
use Rattle.scx_isa_semantics.specs.declared.rules.Rules.{Rules}
use Rattle.scx_verify.specs.declared.faults.Fault.{Fault}
use Rattle.scx_weights.specs.Hierarchy.{Hierarchy}
use Rattle.scx_sched_policy.specs.Policy.{PolicyState}
use Rattle.scx_sched_machine.specs.Callbacks.{AreAnswered}
use Rattle.scx_sched_machine.specs.Start.{first_state, start_calls}
use Rattle.scx_sched.specs.Sim.{SimState, IsFirstState}
use Rattle.scx_isa_semantics.specs.Results.{◌>>=◌}
use Rattle.scx_load_files.specs.Faults.{Reading}
use Rattle.scx_load_policies.specs.Policies.{PolicyFile}
use Rattle.scx_load_policies.specs.Reading.{policy_text}
use Rattle.scx_load_policies.specs.declared.building.BuildError.TheVariants as build
use Rattle.scx_load_policies.specs.Building.{IsBuilt, IsFirstRefused}
use Rattle.scx_load_workloads.specs.Workload.{WorkloadState, first_tree}
use Rattle.scx_load_workloads.specs.Reading.{workload_by}
use Rattle.scx_load_driver.specs.Runs.{AreAccepted}
use Rattle.scx_load_driver.specs.Events.{workload_events}
use Rattle.scxsim_commands.specs.declared.refusal.Refusal.{Refusal}
use Rattle.scxsim_commands.specs.declared.refusal.Refusal.TheVariants.{NoMemory, Policy, Workload, Callback, Init}

-- the policy of the text begins with that state, on these processors and with these
-- groups and tasks, and its random numbers begin at the workload's seed; no callback got stuck
-- before the first event
pub record IsBegun (policy : List ℕ) (w : WorkloadState) (s : SimState) : Type 0 where
  pub file : PolicyFile
  pub machine : PolicyState
  pub policy_read : policy_text policy ≡ Ok file
  pub built : IsBuilt file machine
  pub seeded : machine.seed ≡ w.seed
  pub first : IsFirstState machine (first_tree w) w.cpus s
  pub answered : AreAnswered (start_calls machine (first_tree w) w.cpus)

-- the texts give the run of that workload from that first state on; none of its events is
-- refused
pub record IsRun (policy workload : List ℕ) (w : WorkloadState) (s : SimState) : Type 0 where
  pub begun : IsBegun policy w s
  pub workload_read : workload_by begun.file.rules workload ≡ Ok w
  pub accepted : AreAccepted s (workload_events w s)

-- both texts are read, and the workload is that one, for a policy by the rules of the policy file
pub record AreRead (policy workload : List ℕ) (w : WorkloadState) : Type 0 where
  pub file : PolicyFile
  pub policy_read : policy_text policy ≡ Ok file
  pub workload_read : workload_by file.rules workload ≡ Ok w

-- the name that a policy's text gives the policy; empty where it gives none
abbrev pub name_in : List ℕ → Reading (List ℕ)
name_in policy = policy_text policy >>= λ file. Ok file.name

-- ---- refusals: of several the first, in this order; want of memory says nothing

-- the policy's text isn't a policy file
abbrev pub IsPolicyFault : List ℕ → Refusal → Type 0
IsPolicyFault policy (Policy path cause) =
    policy_text policy ≡ Err (record { path = string_bytes path; cause = cause })
IsPolicyFault policy NoMemory = ⊤
IsPolicyFault policy refusal = ⊥

-- the workload's text isn't a workload file for a policy by those rules
abbrev pub IsWorkloadFault : Rules → List ℕ → Refusal → Type 0
IsWorkloadFault rules workload (Workload path cause) =
    workload_by rules workload ≡ Err (record { path = string_bytes path; cause = cause })
IsWorkloadFault rules workload NoMemory = ⊤
IsWorkloadFault rules workload refusal = ⊥

-- the policy's text is a policy file, and the workload's no workload file for one by its rules
pub record HasBadWorkload (policy workload : List ℕ) (refusal : Refusal) : Type 0 where
  pub file : PolicyFile
  pub policy_read : policy_text policy ≡ Ok file
  pub refused : IsWorkloadFault file.rules workload refusal

-- init, or enable of a task, fails
abbrev pub IsStartFault : PolicyState → Hierarchy → ℕ → Refusal → Type 0
IsStartFault machine tree cpus (Init answer) = first_state machine tree cpus ≡ Err answer
IsStartFault machine tree cpus NoMemory = ⊤
IsStartFault machine tree cpus refusal = ⊥

-- both files are read, and a callback is refused
pub record HasBadCallback (policy workload : List ℕ) (b : callbacks.Callback) (fault : Fault)
    (slot : ℕ) : Type 0 where
  pub file : PolicyFile
  pub w : WorkloadState
  pub policy_read : policy_text policy ≡ Ok file
  pub workload_read : workload_by file.rules workload ≡ Ok w
  pub refused : IsFirstRefused file (build.Refused b fault slot)

-- the policy is built, and its machine can't begin
pub record HasBadStart (policy workload : List ℕ) (answer : ℤ) : Type 0 where
  pub file : PolicyFile
  pub w : WorkloadState
  pub machine : PolicyState
  pub policy_read : policy_text policy ≡ Ok file
  pub workload_read : workload_by file.rules workload ≡ Ok w
  pub built : IsBuilt file machine
  pub seeded : machine.seed ≡ w.seed
  pub failed : first_state machine (first_tree w) w.cpus ≡ Err answer

-- the texts are refused for that cause, with nothing wrong before; want of memory says nothing
abbrev pub IsCause : List ℕ → List ℕ → Refusal → Type 0
IsCause policy workload (Policy path cause) = IsPolicyFault policy (Policy path cause)
IsCause policy workload (Workload path cause) =
    HasBadWorkload policy workload (Workload path cause)
IsCause policy workload (Callback b fault slot) = HasBadCallback policy workload b fault slot
IsCause policy workload NoMemory = ⊤
IsCause policy workload (Init answer) = HasBadStart policy workload answer
IsCause policy workload refusal = ⊥
