-- The page of one millisecond of a run, and the causes of a refusal.
use Rattle.std.specs.Prelude.{◌≡◌, ℕ, ◌==◌, nat_lt, if◌then◌else◌, Bool, true, false, List, [], ◌∷◌, ◌++◌, codes}
use Rattle.std.specs.List.{filter}
use Rattle.scx_sched_world.specs.declared.notes.Note.{Note}
use Rattle.scx_sched_machine.specs.declared.events.Event.{Event}
use Rattle.scx_sched.specs.Sim.{SimState, after_event, notes_of}
use Rattle.scx_load_replay.specs.declared.scenario.Scenario.{Scenario}
use Rattle.scx_load_replay.specs.Scenarios.{workload_of, scenario_events}
use Rattle.scxsim_trace.specs.Lines.{NameLists, names_of, note_line}
use Rattle.scxsim_runs.specs.Scenarios.{IsScenarioRun}
use Rattle.scxsim_steps.specs.Moments.{IsMoment}

-- the notes of a millisecond among those of events, up to the first event that comes after it
abbrev pub notes_within : ℕ → SimState → List Event → List Note
notes_within ms s [] = []
notes_within ms s (e ∷ es) =
    if nat_lt ms s.state.world.clock then []
    else filter (λ n. n.clock == ms) (notes_of s e) ++ notes_within ms (after_event s e) es

-- the events up to the end of a millisecond: those before the first that comes after it
abbrev pub events_within : ℕ → SimState → List Event → List Event
events_within ms s [] = []
events_within ms s (e ∷ es) =
    if nat_lt ms s.state.world.clock then [] else e ∷ events_within ms (after_event s e) es

-- a text grows by the lines of these notes, in their order, with words before each
abbrev pub Grows : NameLists → List Note → List ℕ → List ℕ → Type 0
Grows names [] old new = new ≡ old
Grows names (n ∷ ns) old new =
    (words : List ℕ) × Grows names ns (old ++ (words ++ note_line names n)) new

-- a text that has the lines of these notes, in their order, with words between them
pub record HasLines (names : NameLists) (notes : List Note) (text : List ℕ) : Type 0 where
  pub lines : List ℕ
  pub rest : List ℕ
  pub grown : Grows names notes [] lines
  pub whole : text ≡ lines ++ rest

-- the word names a millisecond of the run of the two texts, and the page has
-- the lines of its notes
pub record IsStepped (policy scenario word text : List ℕ) : Type 0 where
  pub of_scenario : Scenario
  pub first : SimState
  pub run : IsScenarioRun policy scenario of_scenario first
  pub ms : ℕ
  pub named : IsMoment (workload_of of_scenario).ms word ms
  pub has_lines : HasLines (names_of (workload_of of_scenario))
      (notes_within ms first (scenario_events of_scenario first)) text

-- the word names no millisecond of the run of the two texts
pub record IsOutside (policy scenario word : List ℕ) : Type 0 where
  pub of_scenario : Scenario
  pub first : SimState
  pub run : IsScenarioRun policy scenario of_scenario first
  pub none : (ms : ℕ) → ¬ IsMoment (workload_of of_scenario).ms word ms

-- what is written where the answer is true, and where it is false
abbrev pub IsAnswer : Bool → List ℕ → List ℕ → List ℕ → List ℕ → Type 0
IsAnswer true policy scenario word text = IsStepped policy scenario word text
IsAnswer false policy scenario word text =
    IsOutside policy scenario word × (text ≡ codes "refused: word MS: out of range\n")

-- ---- while a run goes on

-- the millisecond, the names of tasks and groups, the page up to its last line of a
-- note, and whether there was no memory for one
pub record Kept : Type 0 where
  pub ms : ℕ
  pub names : NameLists
  pub text : List ℕ
  pub lost : Bool

-- a note of that millisecond comes on the page, and another one doesn't
abbrev pub Hears : Bool → NameLists → Note → List ℕ → List ℕ → Type 0
Hears false names n old new = new ≡ old
Hears true names n old new = (words : List ℕ) × (new ≡ old ++ (words ++ note_line names n))

-- a note comes
abbrev pub TakesNote : Kept → Note → Kept → Type 0
TakesNote a n b =
    (a.lost ≡ true → b ≡ a) × (b.ms ≡ a.ms) × (b.names ≡ a.names)
    × (b.lost ≡ false → (a.lost ≡ false) × Hears (n.clock == a.ms) a.names n a.text b.text)

-- unless there was no memory, the page grows by the lines of these notes
abbrev pub GrowsBy : List Note → Kept → Kept → Type 0
GrowsBy ns a b = b.lost ≡ false → (a.lost ≡ false) × Grows a.names ns a.text b.text
