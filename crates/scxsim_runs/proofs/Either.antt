-- A text is read as a workload, or as a file of events, and its runs and refusals are those.
use Rattle.std.proofs.Common.{◌≡◌, ℕ, ℤ, true, false, List, Ok, Err, refl, sym, ap, subst, ◌∙◌}
use Rattle.scx_isa_semantics.specs.Results.{◌>>=◌}
use Rattle.scx_isa_semantics.specs.declared.rules.Rules.{Rules}
use Rattle.scx_sched_policy.specs.Policy.{PolicyState}
use Rattle.scx_sched_machine.specs.Start.{first_state}
use Rattle.scx_sched.specs.Sim.{SimState}
use Rattle.scx_load_files.specs.Faults.{Reading}
use Rattle.scx_load_workloads.specs.Workload.{WorkloadState, first_tree}
use Rattle.scx_load_workloads.specs.Reading.{workload_by}
use Rattle.scx_load_replay.specs.Replay.{ReplayState}
use Rattle.scx_load_replay.specs.declared.scenario.Scenario.{Scenario}
use Rattle.scx_load_replay.specs.declared.scenario.Scenario.TheVariants as scenario
use Rattle.scx_load_replay.specs.Reading.{replay_by, has_events}
use Rattle.scx_load_replay.specs.Scenarios.{workload_of, scenario_if, scenario_by}
use Rattle.scxsim_commands.specs.declared.refusal.Refusal.{Refusal}
use Rattle.scxsim_commands.specs.declared.refusal.Refusal.TheVariants.{TooLarge, NotUtf8, NoMemory, OutOfRange, NoSuchTask, TooManyStretches, Decode, Verify, Assemble, Callback, Policy, Workload, Events, Init}
use Rattle.scxsim_runs.specs.Runs.{IsRun, IsCause}
use Rattle.scxsim_runs.specs.Replays.{IsReplayRun, IsReplayCause}
use Rattle.scxsim_runs.specs.Scenarios.{IsScenarioRun, IsScenarioCause}
use Rattle.scxsim_runs.specs.ScenarioLaws.{IsAsWorkload, IsAsFileOfEvents}

-- ---- what is read

workload_made : (read : Reading WorkloadState) (x : Scenario) → (read >>= λ w. Ok (scenario.Workload w)) ≡ Ok x → (w : WorkloadState) × (x ≡ scenario.Workload w) × (read ≡ Ok w)
workload_made (Ok w) x e = (w, cc, refl)
workload_made (Err f) x e = absurd (cc)

replay_made : (read : Reading ReplayState) (x : Scenario) → (read >>= λ r. Ok (scenario.Events r)) ≡ Ok x → (r : ReplayState) × (x ≡ scenario.Events r) × (read ≡ Ok r)
replay_made (Ok r) x e = (r, cc, refl)
replay_made (Err f) x e = absurd (cc)

same_workload : (v w : WorkloadState) → scenario.Workload v ≡ scenario.Workload w → w ≡ v
same_workload v w e = cc

same_replay : (q r : ReplayState) → scenario.Events q ≡ scenario.Events r → r ≡ q
same_replay q r e = cc

-- a workload that is read is that of the text
pub workload_is : (rules : Rules) (text : List ℕ) (x : Scenario) → has_events text ≡ false → scenario_by rules text ≡ Ok x → (w : WorkloadState) × (x ≡ scenario.Workload w) × (workload_by rules text ≡ Ok w)
workload_is rules text x none read = workload_made (workload_by rules text) x (subst (λ b. scenario_if b rules text ≡ Ok x) none read)

-- a file of events that is read is that of the text
pub replay_is : (rules : Rules) (text : List ℕ) (x : Scenario) → has_events text ≡ true → scenario_by rules text ≡ Ok x → (r : ReplayState) × (x ≡ scenario.Events r) × (replay_by rules text ≡ Ok r)
replay_is rules text x some read = replay_made (replay_by rules text) x (subst (λ b. scenario_if b rules text ≡ Ok x) some read)

-- ---- refusals

abbrev Seeded : PolicyState → Scenario → Type 0
Seeded machine y = machine.seed ≡ (workload_of y).seed

abbrev Fails : PolicyState → ℤ → Scenario → Type 0
Fails machine answer y = first_state machine (first_tree (workload_of y)) (workload_of y).cpus ≡ Err answer

as_workload : (policy text : List ℕ) → has_events text ≡ false → (r : Refusal) → IsScenarioCause policy text r → IsCause policy text r
as_workload policy text is (Policy path cause) why = why
as_workload policy text is (Workload path cause) why = why.1
as_workload policy text is (Events path cause) why = let bad : true ≡ false = sym why.0 ∙ is in absurd (cc)
as_workload policy text is (Callback b fault slot) why =
    let found = workload_is why.file.rules text why.x is why.scenario_read in
    record { file = why.file; w = found.0; policy_read = why.policy_read; workload_read = found.2; refused = why.refused }
as_workload policy text is NoMemory why = tt
as_workload policy text is (Init answer) why =
    let found = workload_is why.file.rules text why.x is why.scenario_read in
    record { file = why.file; w = found.0; machine = why.machine; policy_read = why.policy_read; workload_read = found.2; built = why.built; seeded = subst (Seeded why.machine) found.1 why.seeded; failed = subst (Fails why.machine answer) found.1 why.failed }
as_workload policy text is TooLarge why = absurd why
as_workload policy text is NotUtf8 why = absurd why
as_workload policy text is (OutOfRange word) why = absurd why
as_workload policy text is NoSuchTask why = absurd why
as_workload policy text is (TooManyStretches n) why = absurd why
as_workload policy text is (Decode f slot) why = absurd why
as_workload policy text is (Verify f slot) why = absurd why
as_workload policy text is (Assemble f line) why = absurd why

as_events : (policy text : List ℕ) → has_events text ≡ true → (r : Refusal) → IsScenarioCause policy text r → IsReplayCause policy text r
as_events policy text is (Policy path cause) why = why
as_events policy text is (Workload path cause) why = let bad : true ≡ false = sym is ∙ why.0 in absurd (cc)
as_events policy text is (Events path cause) why = why.1
as_events policy text is (Callback b fault slot) why =
    let found = replay_is why.file.rules text why.x is why.scenario_read in
    record { file = why.file; r = found.0; policy_read = why.policy_read; events_read = found.2; refused = why.refused }
as_events policy text is NoMemory why = tt
as_events policy text is (Init answer) why =
    let found = replay_is why.file.rules text why.x is why.scenario_read in
    record { file = why.file; r = found.0; machine = why.machine; policy_read = why.policy_read; events_read = found.2; built = why.built; seeded = subst (Seeded why.machine) found.1 why.seeded; failed = subst (Fails why.machine answer) found.1 why.failed }
as_events policy text is TooLarge why = absurd why
as_events policy text is NotUtf8 why = absurd why
as_events policy text is (OutOfRange word) why = absurd why
as_events policy text is NoSuchTask why = absurd why
as_events policy text is (TooManyStretches n) why = absurd why
as_events policy text is (Decode f slot) why = absurd why
as_events policy text is (Verify f slot) why = absurd why
as_events policy text is (Assemble f line) why = absurd why

-- ---- the laws

module _ (policy text : List ℕ) where
  without_key : has_events text ≡ false → IsAsWorkload policy text
  without_key none = record {
    runs = λ w s. (to w s, from w s);
    only = λ x s run. let found = workload_is run.begun.file.rules text x none run.scenario_read in (found.0, found.1);
    refusals = as_workload policy text none;
  }
    where
      to : (w : WorkloadState) (s : SimState) → IsScenarioRun policy text (scenario.Workload w) s → IsRun policy text w s
      to w s run =
          let found = workload_is run.begun.file.rules text (scenario.Workload w) none run.scenario_read in
          record { begun = run.begun; workload_read = found.2 ∙ ap (λ v. Ok v) (same_workload w found.0 found.1); accepted = run.accepted }

      from : (w : WorkloadState) (s : SimState) → IsRun policy text w s → IsScenarioRun policy text (scenario.Workload w) s
      from w s run =
          record { begun = run.begun; scenario_read = subst (λ b. scenario_if b run.begun.file.rules text ≡ Ok (scenario.Workload w)) (sym none) (ap (λ (read : Reading WorkloadState). read >>= λ v. Ok (scenario.Workload v)) run.workload_read); accepted = run.accepted }

  with_key : has_events text ≡ true → IsAsFileOfEvents policy text
  with_key some = record {
    runs = λ e s. (to e s, from e s);
    only = λ x s run. let found = replay_is run.begun.file.rules text x some run.scenario_read in (found.0, found.1);
    refusals = as_events policy text some;
  }
    where
      to : (e : ReplayState) (s : SimState) → IsScenarioRun policy text (scenario.Events e) s → IsReplayRun policy text e s
      to e s run =
          let found = replay_is run.begun.file.rules text (scenario.Events e) some run.scenario_read in
          record { begun = run.begun; events_read = found.2 ∙ ap (λ v. Ok v) (same_replay e found.0 found.1); accepted = run.accepted }

      from : (e : ReplayState) (s : SimState) → IsReplayRun policy text e s → IsScenarioRun policy text (scenario.Events e) s
      from e s run =
          record { begun = run.begun; scenario_read = subst (λ b. scenario_if b run.begun.file.rules text ≡ Ok (scenario.Events e)) (sym some) (ap (λ (read : Reading ReplayState). read >>= λ v. Ok (scenario.Events v)) run.events_read); accepted = run.accepted }

-- of every text without a key `events`
pub without_events : (policy text : List ℕ) → has_events text ≡ false → IsAsWorkload policy text
without_events policy text none = without_key policy text none

-- of every text with a key `events`
pub with_events : (policy text : List ℕ) → has_events text ≡ true → IsAsFileOfEvents policy text
with_events policy text some = with_key policy text some
