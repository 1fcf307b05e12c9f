-- The texts of a policy file and of a scenario say a run together, or are refused.
use Rattle.std.specs.Prelude.{◌≡◌, ℕ, ℤ, Bool, true, false, List, ⊤, Ok, Err}
use Rattle.scx_isa_semantics.specs.declared.callbacks.Callback as callbacks
use Rattle.scx_isa_semantics.specs.declared.rules.Rules.{Rules}
use Rattle.scx_verify.specs.declared.faults.Fault.{Fault}
use Rattle.scx_sched_policy.specs.Policy.{PolicyState}
use Rattle.scx_sched_machine.specs.Start.{first_state}
use Rattle.scx_sched.specs.Sim.{SimState}
use Rattle.scx_load_policies.specs.Policies.{PolicyFile}
use Rattle.scx_load_policies.specs.Reading.{policy_text}
use Rattle.scx_load_policies.specs.declared.building.BuildError.TheVariants as build
use Rattle.scx_load_policies.specs.Building.{IsBuilt, IsFirstRefused}
use Rattle.scx_load_workloads.specs.Workload.{first_tree}
use Rattle.scx_load_driver.specs.Runs.{stepped_all, AreAccepted}
use Rattle.scx_load_replay.specs.declared.scenario.Scenario.{Scenario}
use Rattle.scx_load_replay.specs.Reading.{has_events}
use Rattle.scx_load_replay.specs.Scenarios.{workload_of, scenario_events, scenario_by}
use Rattle.scxsim_commands.specs.declared.refusal.Refusal.{Refusal}
use Rattle.scxsim_commands.specs.declared.refusal.Refusal.TheVariants.{NoMemory, Policy, Workload, Events, Callback, Init}
use Rattle.scxsim_runs.specs.Runs.{IsBegun, IsPolicyFault, IsWorkloadFault, HasBadWorkload}
use Rattle.scxsim_runs.specs.Replays.{IsEventsFault, HasBadEvents}

-- the texts give the run of that scenario from that first state on; none of its events is refused
pub record IsScenarioRun (policy scenario : List ℕ) (x : Scenario) (s : SimState) : Type 0 where
  pub begun : IsBegun policy (workload_of x) s
  pub scenario_read : scenario_by begun.file.rules scenario ≡ Ok x
  pub accepted : AreAccepted s (scenario_events x s)

-- the machine after all events
abbrev pub last_in : Scenario → SimState → SimState
last_in x s = stepped_all s (scenario_events x s)

-- both texts are read, and the scenario is that one, for a policy by the rules of the policy file
pub record IsScenarioRead (policy scenario : List ℕ) (x : Scenario) : Type 0 where
  pub file : PolicyFile
  pub policy_read : policy_text policy ≡ Ok file
  pub scenario_read : scenario_by file.rules scenario ≡ Ok x

-- ---- refusals: of several the first, in this order; out of memory says nothing

-- the text isn't a file of events, or else a workload, for a policy by those rules
abbrev pub IsFaultIf : Bool → Rules → List ℕ → Refusal → Type 0
IsFaultIf true rules text refusal = IsEventsFault rules text refusal
IsFaultIf false rules text refusal = IsWorkloadFault rules text refusal

-- the text is no scenario for a policy by those rules
abbrev pub IsScenarioFault : Rules → List ℕ → Refusal → Type 0
IsScenarioFault rules text refusal = IsFaultIf (has_events text) rules text refusal

-- both files are read, and a callback is refused
pub record HasScenarioCallback (policy scenario : List ℕ) (b : callbacks.Callback) (fault : Fault)
    (slot : ℕ) : Type 0 where
  pub file : PolicyFile
  pub x : Scenario
  pub policy_read : policy_text policy ≡ Ok file
  pub scenario_read : scenario_by file.rules scenario ≡ Ok x
  pub refused : IsFirstRefused file (build.Refused b fault slot)

-- the policy is built, and its machine can't begin
pub record HasScenarioStart (policy scenario : List ℕ) (answer : ℤ) : Type 0 where
  pub file : PolicyFile
  pub x : Scenario
  pub machine : PolicyState
  pub policy_read : policy_text policy ≡ Ok file
  pub scenario_read : scenario_by file.rules scenario ≡ Ok x
  pub built : IsBuilt file machine
  pub seeded : machine.seed ≡ (workload_of x).seed
  pub failed :
      first_state machine (first_tree (workload_of x)) (workload_of x).cpus ≡ Err answer

-- the texts are refused for that cause, with nothing wrong before; a text with a key `events` is
-- refused as a file of events, and any other as a workload
abbrev pub IsScenarioCause : List ℕ → List ℕ → Refusal → Type 0
IsScenarioCause policy scenario (Policy path cause) = IsPolicyFault policy (Policy path cause)
IsScenarioCause policy scenario (Workload path cause) =
    (has_events scenario ≡ false) × HasBadWorkload policy scenario (Workload path cause)
IsScenarioCause policy scenario (Events path cause) =
    (has_events scenario ≡ true) × HasBadEvents policy scenario (Events path cause)
IsScenarioCause policy scenario (Callback b fault slot) =
    HasScenarioCallback policy scenario b fault slot
IsScenarioCause policy scenario NoMemory = ⊤
IsScenarioCause policy scenario (Init answer) = HasScenarioStart policy scenario answer
IsScenarioCause policy scenario refusal = ⊥
