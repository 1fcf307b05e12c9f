-- Why texts are refused whose scenario is.
use Rattle.std.proofs.Common.{◌≡◌, ℕ, Bool, true, false, List, Ok, refl}
use Rattle.scx_load_policies.specs.Policies.{PolicyFile}
use Rattle.scx_load_policies.specs.Reading.{policy_text}
use Rattle.scx_load_policies.specs.declared.building.BuildError.{BuildError}
use Rattle.scx_load_policies.specs.declared.building.BuildError.TheVariants as build
use Rattle.scx_load_policies.specs.Building.{IsFirstRefused}
use Rattle.scx_load_replay.specs.declared.scenario.Scenario.{Scenario}
use Rattle.scx_load_replay.specs.Reading.{has_events}
use Rattle.scx_load_replay.specs.Scenarios.{scenario_by}
use Rattle.scxsim_commands.specs.declared.refusal.Refusal.{Refusal}
use Rattle.scxsim_commands.specs.declared.refusal.Refusal.TheVariants.{TooLarge, NotUtf8, NoMemory, OutOfRange, NoSuchTask, TooManyStretches, Decode, Verify, Assemble, Callback, Policy, Workload, Events, Init}
use Rattle.scxsim_commands.specs.Refusals.{build_refusal}
use Rattle.scxsim_runs.specs.Scenarios.{IsFaultIf, IsScenarioFault, IsScenarioCause}

-- where the policy is read, what its scenario is refused for is why both are
pub scenario_cause : (policy scenario : List ℕ) (file : PolicyFile) (r : Refusal) → policy_text policy ≡ Ok file → IsScenarioFault file.rules scenario r → IsScenarioCause policy scenario r
scenario_cause policy scenario file r read fault = go (has_events scenario) refl r fault
  where
    go : (some : Bool) → has_events scenario ≡ some → (r : Refusal) → IsFaultIf some file.rules scenario r → IsScenarioCause policy scenario r
    go false is (Workload path cause) h = (is, record { file = file; policy_read = read; refused = h })
    go true is (Events path cause) h = (is, record { file = file; policy_read = read; refused = h })
    go true is NoMemory h = tt
    go true is TooLarge h = absurd h
    go true is NotUtf8 h = absurd h
    go true is (OutOfRange word) h = absurd h
    go true is NoSuchTask h = absurd h
    go true is (TooManyStretches n) h = absurd h
    go true is (Decode f slot) h = absurd h
    go true is (Verify f slot) h = absurd h
    go true is (Assemble f line) h = absurd h
    go true is (Callback b f slot) h = absurd h
    go true is (Policy path cause) h = absurd h
    go true is (Init answer) h = absurd h
    go true is (Workload path cause) h = absurd h
    go false is NoMemory h = tt
    go false is TooLarge h = absurd h
    go false is NotUtf8 h = absurd h
    go false is (OutOfRange word) h = absurd h
    go false is NoSuchTask h = absurd h
    go false is (TooManyStretches n) h = absurd h
    go false is (Decode f slot) h = absurd h
    go false is (Verify f slot) h = absurd h
    go false is (Assemble f line) h = absurd h
    go false is (Callback b f slot) h = absurd h
    go false is (Policy path cause) h = absurd h
    go false is (Init answer) h = absurd h
    go false is (Events path cause) h = absurd h

-- where both are read, what the policy can't be built for is why they are refused
pub build_cause : (policy scenario : List ℕ) (file : PolicyFile) (x : Scenario) (e : BuildError) → policy_text policy ≡ Ok file → scenario_by file.rules scenario ≡ Ok x → IsFirstRefused file e → IsScenarioCause policy scenario (build_refusal e)
build_cause policy scenario file x (build.Refused b fault slot) read known refused = record { file = file; x = x; policy_read = read; scenario_read = known; refused = refused }
build_cause policy scenario file x build.NoMemory read known refused = tt
