-- What a run of two texts comes to.
use Rattle.std.proofs.Common.{◌≡◌, ℕ, List, [], ◌⊎◌, inl, inr, subst, sym}
use Rattle.scx_load_workloads.specs.Workload.{WorkloadState}
use Rattle.scx_load_replay.specs.declared.scenario.Scenario.{Scenario}
use Rattle.scx_load_replay.specs.Scenarios.{workload_of, scenario_events}
use Rattle.scx_sched_machine.specs.declared.events.Event.{Event}
use Rattle.scx_load_driver.specs.Runs.{notes_of_all}
use Rattle.scx_sched.specs.Sim.{SimState}
use Rattle.scxsim_commands.specs.declared.refusal.Refusal.{Refusal}
use Rattle.scxsim_commands.specs.declared.refusal.Refusal.TheVariants.{NoMemory, NoSuchTask}
use Rattle.scxsim_runs.specs.Scenarios.{IsScenarioRun, IsScenarioCause}
use Rattle.scxsim_runs.proofs.PartCauses.{scenario_is_read}
use Rattle.scx_sched_world.specs.declared.notes.Note.{Note}
use Rattle.scxsim_views.specs.BoundTasks.{bound_mask}
use Rattle.scxsim_story.specs.declared.subject.Subject.{Subject}
use Rattle.scxsim_story.specs.Stories.{IsSubject, IsNoTask, TellsAll, IsToldIn, IsStory, IsStoryCause}

-- the run is that of the texts, and memory ran out, or the word names no task
pub cause_of_run : (policy scenario task : List ℕ) (x : Scenario) (s : SimState) (r : Refusal) → IsScenarioRun policy scenario x s → (r ≡ NoMemory) ⊎ ((r ≡ NoSuchTask) × IsNoTask (workload_of x) task) → IsStoryCause policy scenario task r
cause_of_run policy scenario task x s r run (inl e) = inl (subst (λ q. IsScenarioCause policy scenario q) (sym e) tt)
cause_of_run policy scenario task x s r run (inr (e, none)) = inr (record { of_scenario = x; read = scenario_is_read policy scenario x s run; none = none; refused = e })

-- the run is that of the texts, and its story was told
pub story_of_run : (policy scenario task : List ℕ) (x : Scenario) (s : SimState) (es : List Event) (text : List ℕ) → IsScenarioRun policy scenario x s → es ≡ scenario_events x s → IsToldIn (workload_of x) task (notes_of_all s es) text → IsStory policy scenario task text
story_of_run policy scenario task x s es text run events told =
    let P : List Event → Type 0 = λ l. IsToldIn (workload_of x) task (notes_of_all s l) text in
    record { of_scenario = x; first = s; run = run; told = subst P events told }

-- the task has that name, and its story was told
pub told_of_subject : (w : WorkloadState) (task : List ℕ) (notes : List Note) (text : List ℕ) (x : Subject) → IsSubject w task x → TellsAll task (bound_mask w x.task) x notes text → IsToldIn w task notes text
told_of_subject w task notes text x named told = record { subject = x; named = named; told = told }
