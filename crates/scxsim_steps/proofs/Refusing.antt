-- What a run of two texts comes to.
use Rattle.std.proofs.Common.{◌≡◌, arith, ℕ, ◌<◌, ◌^◌, List, false, Option, None, subst, sym, ◌∙◌}
use Rattle.std.specs.Prelude.{IfNone, codes}
use Rattle.std.specs.Io.KnownBytes.{Appends}
use Rattle.scx_sched_machine.specs.declared.events.Event.{Event}
use Rattle.scx_load_replay.specs.declared.scenario.Scenario.{Scenario}
use Rattle.scx_load_replay.specs.Scenarios.{workload_of, scenario_events}
use Rattle.scx_sched.specs.Sim.{SimState}
use Rattle.scxsim_trace.specs.Lines.{names_of}
use Rattle.scxsim_runs.specs.Scenarios.{IsScenarioRun}
use Rattle.scxsim_steps.specs.Moments.{Says, IsMoment}
use Rattle.scxsim_steps.specs.Stepping.{notes_within, HasLines, IsStepped, IsOutside, IsAnswer}

-- the word says no number
pub unsaid : (all : ℕ) (word : List ℕ) → all < 2 ^ 32 → ((m : ℕ) → m < 2 ^ 32 → ¬ Says word m) → (ms : ℕ) → ¬ IsMoment all word ms
unsaid all word l never ms p =
    let inside = p.inside in
    never ms (omega (arith, inside, l)) p.said

-- the word says one that is past the end
pub past : (all : ℕ) (word : List ℕ) (n : ℕ) → Says word n → all < n → (ms : ℕ) → ¬ IsMoment all word ms
past all word n said l ms p =
    let inside = p.inside in
    let same : n ≡ ms = sym said.1 ∙ p.said.1 in
    omega (arith, inside, same, l)

-- the run is that of the texts, and its page was made
pub stepped_of_run : (policy scenario word text : List ℕ) (x : Scenario) (s : SimState) (ms : ℕ) (es : List Event) → IsScenarioRun policy scenario x s → es ≡ scenario_events x s → IsMoment (workload_of x).ms word ms
    → HasLines (names_of (workload_of x)) (notes_within ms s es) text → IsStepped policy scenario word text
stepped_of_run policy scenario word text x s ms es run events named lines =
    let P : List Event → Type 0 = λ l. HasLines (names_of (workload_of x)) (notes_within ms s l) text in
    record { of_scenario = x; first = s; run = run; ms = ms; named = named; has_lines = subst P events lines }

-- the run is that of the texts, and the word names no millisecond of it
pub outside_of_run : (policy scenario word : List ℕ) (x : Scenario) (s : SimState) → IsScenarioRun policy scenario x s → ((ms : ℕ) → ¬ IsMoment (workload_of x).ms word ms) → IsOutside policy scenario word
outside_of_run policy scenario word x s run none = record { of_scenario = x; first = s; run = run; none = none }

-- that it names none is said
pub past_is_said : {A : Type 0} (policy scenario word : List ℕ) (page : Option A) (old new : Option (List ℕ)) (bytes : List ℕ) → IfNone page (IsOutside policy scenario word) → page ≡ None → bytes ≡ codes "refused: word MS: out of range\n" → Appends old new bytes
    → (text : List ℕ) × IsAnswer false policy scenario word text × Appends old new text
past_is_said {A} policy scenario word page old new bytes none is said grown =
    let P : Option A → Type 0 = λ p. IfNone p (IsOutside policy scenario word) in
    (bytes, (subst P is none, said), grown)
