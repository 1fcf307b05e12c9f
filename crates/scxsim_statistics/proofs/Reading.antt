-- The figures of the run of two texts.
use Rattle.std.proofs.Common.{◌≡◌, ℕ, List, Ok, length, sym, ap, subst, ◌∙◌}
use Rattle.std.specs.Prelude.{String, string_bytes}
use Rattle.std.specs.declared.alloc.Global.{Global}
use Rattle.scx_sched_machine.specs.declared.events.Event.{Event}
use Rattle.scx_sched.specs.Sim.{SimState}
use Rattle.scx_load_driver.proofs.Alike.{like_first}
use Rattle.scx_load_workloads.specs.Workload.{WorkloadState, first_tree}
use Rattle.scx_load_driver.specs.Runs.{stepped_all}
use Rattle.scx_load_replay.specs.Replay.{ReplayState}
use Rattle.scx_load_replay.specs.Events.{replay_events}
use Rattle.scx_load_replay.specs.declared.scenario.Scenario.{Scenario}
use Rattle.scx_load_replay.specs.Scenarios.{workload_of, scenario_events}
use Rattle.scxsim_runs.specs.Runs.{name_in}
use Rattle.scxsim_runs.specs.Scenarios.{IsScenarioRun}
use Rattle.scxsim_runs.specs.Replays.{IsReplayRun}
use Rattle.scxsim_statistics.specs.declared.gathering.Figures.{Figures}
use Rattle.scxsim_statistics.specs.Figures.{AreOfRun, AreOfTexts, AreOfEvents, of_figures}
use Rattle.scxsim_statistics.proofs.Staying.{tasks_stay}

all_there : (policy scenario : List ℕ) (x : Scenario) (s : SimState) → IsScenarioRun policy scenario x s → length (stepped_all s (scenario_events x s)).state.world.tasks ≡ length (workload_of x).homes
all_there policy scenario x s run =
    tasks_stay (scenario_events x s) s run.accepted ∙ (like_first run.begun.machine (first_tree (workload_of x)) (workload_of x).cpus s.state run.begun.first.0).1.0

-- figures of the run of two texts, through all its events, are figures of the texts
pub of_texts : (policy scenario : List ℕ) (x : Scenario) (w : WorkloadState) (s : SimState) (es : List Event) (f : Figures)
    → f.workload ≡ w → w ≡ workload_of x → IsScenarioRun policy scenario x s → es ≡ scenario_events x s → AreOfRun w s es (of_figures f) → name_in policy ≡ Ok (string_bytes f.policy_name) → AreOfTexts policy scenario f
of_texts policy scenario x w s es f same of run listed figures named =
    let R : WorkloadState → Type 0 = λ v. AreOfRun v s (scenario_events x s) (of_figures f) in
    record {
      x = x;
      first = s;
      run = run;
      workload = same ∙ of;
      all_there = all_there policy scenario x s run;
      of_run = subst R of (subst (λ xs. AreOfRun w s xs (of_figures f)) listed figures);
      named = named;
    }

all_listed : (policy events : List ℕ) (r : ReplayState) (s : SimState) → IsReplayRun policy events r s → length (stepped_all s (replay_events r)).state.world.tasks ≡ length r.workload.homes
all_listed policy events r s run =
    tasks_stay (replay_events r) s run.accepted ∙ (like_first run.begun.machine (first_tree r.workload) r.workload.cpus s.state run.begun.first.0).1.0

-- figures of the run of a policy's text and a file of events are figures of these
pub of_events : (policy events : List ℕ) (r : ReplayState) (w : WorkloadState) (s : SimState) (es : List Event) (f : Figures)
    → f.workload ≡ w → w ≡ r.workload → IsReplayRun policy events r s → es ≡ replay_events r → AreOfRun w s es (of_figures f) → name_in policy ≡ Ok (string_bytes f.policy_name) → AreOfEvents policy events f
of_events policy events r w s es f same of run listed figures named =
    let R : WorkloadState → Type 0 = λ v. AreOfRun v s (replay_events r) (of_figures f) in
    record {
      r = r;
      first = s;
      run = run;
      workload = same ∙ of;
      all_there = all_listed policy events r s run;
      of_run = subst R of (subst (λ xs. AreOfRun w s xs (of_figures f)) listed figures);
      named = named;
    }

-- a name that was taken over from the run is the policy's
pub name_is : (policy : List ℕ) (f g : String Global) → f ≡ g → name_in policy ≡ Ok (string_bytes g) → name_in policy ≡ Ok (string_bytes f)
name_is policy f g same named = named ∙ ap (λ n. Ok (string_bytes n)) (sym same)
