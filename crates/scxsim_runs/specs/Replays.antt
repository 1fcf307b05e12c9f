-- The texts of a policy file and of a file of events say a run together, or are refused.
use Rattle.std.specs.Prelude.{◌≡◌, ℕ, ℤ, List, ⊤, Ok, Err, string_bytes}
use Rattle.scx_isa_semantics.specs.declared.callbacks.Callback as callbacks
use Rattle.scx_verify.specs.declared.faults.Fault.{Fault}
use Rattle.scx_sched_policy.specs.Policy.{PolicyState}
use Rattle.scx_sched_machine.specs.Start.{first_state}
use Rattle.scx_sched.specs.Sim.{SimState}
use Rattle.scx_load_policies.specs.Policies.{PolicyFile}
use Rattle.scx_load_policies.specs.Reading.{policy_text}
use Rattle.scx_load_policies.specs.declared.building.BuildError.TheVariants as build
use Rattle.scx_load_policies.specs.Building.{IsBuilt, IsFirstRefused}
use Rattle.scx_isa_semantics.specs.declared.rules.Rules.{Rules}
use Rattle.scx_load_workloads.specs.Workload.{first_tree}
use Rattle.scx_load_driver.specs.Runs.{AreAccepted}
use Rattle.scx_load_replay.specs.Replay.{ReplayState}
use Rattle.scx_load_replay.specs.Reading.{replay_by}
use Rattle.scx_load_replay.specs.Events.{replay_events}
use Rattle.scxsim_commands.specs.declared.refusal.Refusal.{Refusal}
use Rattle.scxsim_commands.specs.declared.refusal.Refusal.TheVariants.{NoMemory, Policy, Events, Callback, Init}
use Rattle.scxsim_runs.specs.Runs.{IsBegun, IsPolicyFault}

-- the texts give the run of that file of events from that first state on; none of its events
-- is refused
pub record IsReplayRun (policy events : List ℕ) (r : ReplayState) (s : SimState) : Type 0 where
  pub begun : IsBegun policy r.workload s
  pub events_read : replay_by begun.file.rules events ≡ Ok r
  pub accepted : AreAccepted s (replay_events r)

-- ---- refusals: of several the first, in this order; want of memory says nothing

-- the text isn't a file of events for a policy by those rules
abbrev pub IsEventsFault : Rules → List ℕ → Refusal → Type 0
IsEventsFault rules events (Events path cause) =
    replay_by rules events ≡ Err (record { path = string_bytes path; cause = cause })
IsEventsFault rules events NoMemory = ⊤
IsEventsFault rules events refusal = ⊥

-- the policy's text is a policy file, and the other text no file of events for one by its rules
pub record HasBadEvents (policy events : List ℕ) (refusal : Refusal) : Type 0 where
  pub file : PolicyFile
  pub policy_read : policy_text policy ≡ Ok file
  pub refused : IsEventsFault file.rules events refusal

-- both files are read, and a callback is refused
pub record HasBadCallback (policy events : List ℕ) (b : callbacks.Callback) (fault : Fault)
    (slot : ℕ) : Type 0 where
  pub file : PolicyFile
  pub r : ReplayState
  pub policy_read : policy_text policy ≡ Ok file
  pub events_read : replay_by file.rules events ≡ Ok r
  pub refused : IsFirstRefused file (build.Refused b fault slot)

-- the policy is built, and its machine can't begin
pub record HasBadStart (policy events : List ℕ) (answer : ℤ) : Type 0 where
  pub file : PolicyFile
  pub r : ReplayState
  pub machine : PolicyState
  pub policy_read : policy_text policy ≡ Ok file
  pub events_read : replay_by file.rules events ≡ Ok r
  pub built : IsBuilt file machine
  pub seeded : machine.seed ≡ r.workload.seed
  pub failed :
      first_state machine (first_tree r.workload) r.workload.cpus ≡ Err answer

-- the texts are refused for that cause, with nothing wrong before; want of memory says nothing
abbrev pub IsReplayCause : List ℕ → List ℕ → Refusal → Type 0
IsReplayCause policy events (Policy path cause) = IsPolicyFault policy (Policy path cause)
IsReplayCause policy events (Events path cause) =
    HasBadEvents policy events (Events path cause)
IsReplayCause policy events (Callback b fault slot) = HasBadCallback policy events b fault slot
IsReplayCause policy events NoMemory = ⊤
IsReplayCause policy events (Init answer) = HasBadStart policy events answer
IsReplayCause policy events refusal = ⊥
