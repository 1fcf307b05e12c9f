-- Laws of runs, each the contract of a public function with an empty body: over a host that
-- answers by functions a run has one outcome, and a run carries over to any host that allows as
-- much.
use Rattle.std.specs.Prelude.{ℕ, ◌≡◌}
use Rattle.scx_isa_semantics.specs.declared.values.Value.{Value}
use Rattle.scx_isa_semantics.specs.declared.callbacks.Callback.{Callback}
use Rattle.scx_isa_semantics.specs.Code.{Code}
use Rattle.scx_isa_semantics.specs.Elements.{Maps}
use Rattle.scx_isa_semantics.specs.Machine.{Arguments}
use Rattle.scx_isa_semantics.specs.Effects.{Query}
use Rattle.scx_isa_semantics.specs.Runs.{Outside, graph, AllowsAs, Runs, GetsStuck}

-- Where the outside answers each query in one way a run has one outcome: two runs to the end agree,
-- two runs that get stuck agree, and where one run ends none gets stuck.
abbrev pub OneEnd : Type 0 → Type 0
OneEnd W =
    (answer-of : W → Query → Value) (after : W → Query → W) (c : Callback) (code : Code)
    (a : Arguments) (maps : Maps) (w : W) (answer answer' steps steps' : ℕ)
    (left left' : Maps) (v v' : W)
    → Runs (graph answer-of after) c code a maps w answer steps left v
    → Runs (graph answer-of after) c code a maps w answer' steps' left' v'
    → (answer ≡ answer') × (steps ≡ steps') × (left ≡ left') × (v ≡ v')

-- where each query has one answer, runs that get stuck agree in slot, steps, maps and outside
abbrev pub OneStuck : Type 0 → Type 0
OneStuck W =
    (answer-of : W → Query → Value) (after : W → Query → W) (c : Callback) (code : Code)
    (a : Arguments) (maps : Maps) (w : W) (slot slot' steps steps' : ℕ)
    (left left' : Maps) (v v' : W)
    → GetsStuck (graph answer-of after) c code a maps w slot steps left v
    → GetsStuck (graph answer-of after) c code a maps w slot' steps' left' v'
    → (slot ≡ slot') × (steps ≡ steps') × (left ≡ left') × (v ≡ v')

-- where each query has one answer, no run both ends and gets stuck
abbrev pub EndsOrGetsStuck : Type 0 → Type 0
EndsOrGetsStuck W =
    (answer-of : W → Query → Value) (after : W → Query → W) (c : Callback) (code : Code)
    (a : Arguments) (maps : Maps) (w : W) (answer steps slot steps' : ℕ)
    (left left' : Maps) (v v' : W)
    → Runs (graph answer-of after) c code a maps w answer steps left v
    → GetsStuck (graph answer-of after) c code a maps w slot steps' left' v' → ⊥

-- Where a second outside allows what the first does, of its states seen through a function, a run
-- over the first is one over the second.
abbrev pub EndCarriesOver : {W V : Type 0} → Outside W → Outside V → Type 0
EndCarriesOver {W} {V} O P =
    (seen : W → V) (c : Callback) (code : Code) (a : Arguments) (maps : Maps) (w : W)
    (answer steps : ℕ) (left : Maps) (w' : W)
    → AllowsAs O P seen → Runs O c code a maps w answer steps left w'
    → Runs P c code a maps (seen w) answer steps left (seen w')

-- where a second outside allows as much, what gets stuck over the first does over the second
abbrev pub StuckCarriesOver : {W V : Type 0} → Outside W → Outside V → Type 0
StuckCarriesOver {W} {V} O P =
    (seen : W → V) (c : Callback) (code : Code) (a : Arguments) (maps : Maps) (w : W)
    (slot steps : ℕ) (left : Maps) (w' : W)
    → AllowsAs O P seen → GetsStuck O c code a maps w slot steps left w'
    → GetsStuck P c code a maps (seen w) slot steps left (seen w')
