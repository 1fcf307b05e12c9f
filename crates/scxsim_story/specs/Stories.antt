-- The text of `story`, and the causes of its refusals.
use Rattle.std.specs.Prelude.{◌≡◌, ℕ, ◌<◌, List, [], ◌++◌, codes, length, Option, None, Some, slice_index_or, ◌⊎◌}
use Rattle.scx_sched_world.specs.declared.notes.Note.{Note}
use Rattle.scx_sched.specs.Sim.{SimState}
use Rattle.scx_load_workloads.specs.Workload.{WorkloadState}
use Rattle.scx_load_driver.specs.Runs.{notes_of_all}
use Rattle.scx_load_replay.specs.declared.scenario.Scenario.{Scenario}
use Rattle.scx_load_replay.specs.Scenarios.{workload_of, scenario_events}
use Rattle.scxsim_trace.specs.Lines.{names_of, task_name}
use Rattle.scxsim_views.specs.BoundTasks.{bound_mask}
use Rattle.scxsim_commands.specs.declared.refusal.Refusal.{Refusal}
use Rattle.scxsim_commands.specs.declared.refusal.Refusal.TheVariants.{NoSuchTask}
use Rattle.scxsim_runs.specs.Scenarios.{IsScenarioRun, IsScenarioRead, IsScenarioCause}
use Rattle.scxsim_story.specs.declared.subject.Subject.{Subject}
use Rattle.scxsim_story.specs.Occurrences.{occurrences, Tells}

-- the task of a workload that has that name, in its group
pub record IsSubject (w : WorkloadState) (name : List ℕ) (x : Subject) : Type 0 where
  pub there : x.task < length w.homes
  pub named : task_name (names_of w) x.task ≡ name
  pub group : x.group ≡ slice_index_or w.homes x.task 0

-- no task of a workload has that name
abbrev pub IsNoTask : WorkloadState → List ℕ → Type 0
IsNoTask w name = (t : ℕ) → t < length w.homes → ¬ (task_name (names_of w) t ≡ name)

-- a story opens with the CPUs on which its task may run, if they aren't all, in some words
abbrev pub Opens : List ℕ → Option ℕ → List ℕ → Type 0
Opens name None text = text ≡ []
Opens name (Some mask) text =
    (cpus : List ℕ) × (text ≡ name ++ codes " may run on " ++ cpus ++ codes "\n")

-- an opening, and a line for each occurrence of the task among these notes
abbrev pub TellsAll : List ℕ → Option ℕ → Subject → List Note → List ℕ → Type 0
TellsAll name mask x notes text =
    (opening : List ℕ) × Opens name mask opening × Tells (occurrences x notes) opening text

-- the story of the task of that name among these notes
pub record IsToldIn (w : WorkloadState) (task : List ℕ) (notes : List Note)
    (text : List ℕ) : Type 0 where
  pub subject : Subject
  pub named : IsSubject w task subject
  pub told : TellsAll task (bound_mask w subject.task) subject notes text

-- the story of the task in the run of the two texts
pub record IsStory (policy scenario task text : List ℕ) : Type 0 where
  pub of_scenario : Scenario
  pub first : SimState
  pub run : IsScenarioRun policy scenario of_scenario first
  pub told :
      IsToldIn (workload_of of_scenario) task
      (notes_of_all first (scenario_events of_scenario first)) text

-- both texts are read, and the word names none of the scenario's tasks
pub record IsUnknownTask (policy scenario task : List ℕ) (r : Refusal) : Type 0 where
  pub of_scenario : Scenario
  pub read : IsScenarioRead policy scenario of_scenario
  pub none : IsNoTask (workload_of of_scenario) task
  pub refused : r ≡ NoSuchTask

-- the texts are refused, or the word is
abbrev pub IsStoryCause : List ℕ → List ℕ → List ℕ → Refusal → Type 0
IsStoryCause policy scenario task r =
    IsScenarioCause policy scenario r ⊎ IsUnknownTask policy scenario task r
