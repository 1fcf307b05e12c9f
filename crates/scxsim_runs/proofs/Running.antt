-- What is read, built and begun makes a run.
use Rattle.std.proofs.Common.{◌≡◌, ℕ, List, Result, Ok, Err, IfOk, OnOk, sym, subst}
use Rattle.scx_weights.specs.Hierarchy.{Hierarchy}
use Rattle.scx_sched_machine.specs.declared.events.Event.{Event}
use Rattle.scx_sched_policy.specs.Policy.{PolicyState}
use Rattle.scx_sched_machine.specs.Callbacks.{AreAnswered}
use Rattle.scx_sched_machine.specs.Start.{start_calls}
use Rattle.scx_sched.specs.Sim.{SimState, IsFirstState}
use Rattle.scx_load_policies.specs.Policies.{PolicyFile}
use Rattle.scx_load_policies.specs.Reading.{policy_text}
use Rattle.scx_load_policies.specs.Building.{IsBuilt}
use Rattle.scx_load_workloads.specs.Workload.{WorkloadState, first_tree}
use Rattle.scx_load_workloads.specs.Reading.{workload_by}
use Rattle.scx_load_driver.specs.Runs.{AreAccepted}
use Rattle.scx_load_driver.specs.Events.{workload_events}
use Rattle.scx_load_replay.specs.Replay.{ReplayState}
use Rattle.scx_load_replay.specs.Reading.{replay_by}
use Rattle.scx_load_replay.specs.Events.{replay_events}
use Rattle.scx_load_replay.specs.declared.scenario.Scenario.{Scenario}
use Rattle.scx_load_replay.specs.Scenarios.{workload_of, scenario_events, scenario_by}
use Rattle.scxsim_runs.specs.Runs.{IsRun}
use Rattle.scxsim_runs.specs.Replays.{IsReplayRun}
use Rattle.scxsim_runs.specs.Scenarios.{IsScenarioRun}

-- callbacks are answered as one begins, of a tree and processors that are a workload's
pub answered_of : {R E : Type 0} (r : Result R E) (p : PolicyState) (s t : Hierarchy) (m n : ℕ) → s ≡ t → m ≡ n → OnOk r (AreAnswered (start_calls p s m)) → OnOk r (AreAnswered (start_calls p t n))
answered_of r p s t m n same many h =
    subst (λ (x : Hierarchy). OnOk r (AreAnswered (start_calls p x n))) same (subst (λ (k : ℕ). OnOk r (AreAnswered (start_calls p s k))) many h)

-- and of the workload of a file of events
pub answered_as : {R E : Type 0} (r : Result R E) (p : PolicyState) (v w : WorkloadState) → v ≡ w → OnOk r (AreAnswered (start_calls p (first_tree v) v.cpus)) → OnOk r (AreAnswered (start_calls p (first_tree w) w.cpus))
answered_as r p v w same h = subst (λ (x : WorkloadState). OnOk r (AreAnswered (start_calls p (first_tree x) x.cpus))) same h

-- of whatever is handed back with a workload and a machine
pub run_is : {R E : Type 0} (policy workload : List ℕ) (file : PolicyFile) (machine : PolicyState) (w : WorkloadState) (workload_in : R → WorkloadState) (machine_in : R → SimState) (r : Result R E) → policy_text policy ≡ Ok file → workload_by file.rules workload ≡ Ok w → IsBuilt file machine → machine.seed ≡ w.seed
    → IfOk r (λ run. workload_in run ≡ w) → IfOk r (λ run. IsFirstState machine (first_tree w) w.cpus (machine_in run)) → IfOk r (λ run. AreAccepted (machine_in run) (workload_events w (machine_in run)))
    → OnOk r (AreAnswered (start_calls machine (first_tree w) w.cpus))
    → IfOk r (λ run. IsRun policy workload (workload_in run) (machine_in run))
run_is policy workload file machine w workload_in machine_in (Ok run) policy_read workload_read built seeded same first accepted answered =
    subst (λ v. IsRun policy workload v (machine_in run)) (sym same) (record { begun = record { file = file; machine = machine; policy_read = policy_read; built = built; seeded = seeded; first = first; answered = answered }; workload_read = workload_read; accepted = accepted })
run_is policy workload file machine w workload_in machine_in (Err e) policy_read workload_read built seeded same first accepted answered = tt

-- the same of a file of events
pub replay_is : {R E : Type 0} (policy events : List ℕ) (file : PolicyFile) (machine : PolicyState) (r : ReplayState) (workload_in : R → WorkloadState) (machine_in : R → SimState) (events_in : R → List Event) (x : Result R E) → policy_text policy ≡ Ok file → replay_by file.rules events ≡ Ok r → IsBuilt file machine → machine.seed ≡ r.workload.seed
    → IfOk x (λ run. workload_in run ≡ r.workload) → IfOk x (λ run. events_in run ≡ replay_events r) → IfOk x (λ run. IsFirstState machine (first_tree r.workload) r.workload.cpus (machine_in run)) → IfOk x (λ run. AreAccepted (machine_in run) (replay_events r))
    → OnOk x (AreAnswered (start_calls machine (first_tree r.workload) r.workload.cpus))
    → IfOk x (λ run. (q : ReplayState) × IsReplayRun policy events q (machine_in run) × (workload_in run ≡ q.workload) × (events_in run ≡ replay_events q))
replay_is policy events file machine r workload_in machine_in events_in (Ok run) policy_read events_read built seeded same listed first accepted answered =
    (r, record { begun = record { file = file; machine = machine; policy_read = policy_read; built = built; seeded = seeded; first = first; answered = answered }; events_read = events_read; accepted = accepted }, same, listed)
replay_is policy events file machine r workload_in machine_in events_in (Err e) policy_read events_read built seeded same listed first accepted answered = tt

-- the same of a scenario
pub scenario_is : {R E : Type 0} (policy scenario : List ℕ) (file : PolicyFile) (machine : PolicyState) (x : Scenario) (scenario_in : R → Scenario) (machine_in : R → SimState) (r : Result R E) → policy_text policy ≡ Ok file → scenario_by file.rules scenario ≡ Ok x → IsBuilt file machine → machine.seed ≡ (workload_of x).seed
    → IfOk r (λ run. scenario_in run ≡ x) → IfOk r (λ run. IsFirstState machine (first_tree (workload_of x)) (workload_of x).cpus (machine_in run)) → IfOk r (λ run. AreAccepted (machine_in run) (scenario_events x (machine_in run)))
    → OnOk r (AreAnswered (start_calls machine (first_tree (workload_of x)) (workload_of x).cpus))
    → IfOk r (λ run. IsScenarioRun policy scenario (scenario_in run) (machine_in run))
scenario_is policy scenario file machine x scenario_in machine_in (Ok run) policy_read scenario_read built seeded same first accepted answered =
    subst (λ y. IsScenarioRun policy scenario y (machine_in run)) (sym same) (record { begun = record { file = file; machine = machine; policy_read = policy_read; built = built; seeded = seeded; first = first; answered = answered }; scenario_read = scenario_read; accepted = accepted })
scenario_is policy scenario file machine x scenario_in machine_in (Err e) policy_read scenario_read built seeded same first accepted answered = tt
