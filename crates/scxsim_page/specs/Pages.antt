-- The text that `view` writes, and the causes of its refusals.
use Rattle.std.specs.Prelude.{◌≡◌, ℕ, ◌<◌, ◌≤◌, ◌-◌, ◌*◌, nat_le, Bool, true, false, List, length, ◌++◌, Option, None, Some, is_some, ◌⊎◌}
use Rattle.scx_sched.specs.Sim.{SimState}
use Rattle.scx_load_replay.specs.declared.scenario.Scenario.{Scenario}
use Rattle.scx_load_replay.specs.Scenarios.{workload_of}
use Rattle.scxsim_commands.specs.declared.refusal.TheConstants.{MOST_STRETCHES}
use Rattle.scxsim_commands.specs.declared.refusal.Refusal.{Refusal}
use Rattle.scxsim_commands.specs.declared.refusal.Refusal.TheVariants.{TooManyStretches}
use Rattle.scxsim_runs.specs.Scenarios.{IsScenarioRun}
use Rattle.scxsim_runs.specs.ScenarioParts.{IsScenarioPartCause}
use Rattle.scxsim_commands.specs.declared.windows.Window.{Window}
use Rattle.scxsim_commands.specs.Windows.{IsWindow}
use Rattle.scxsim_commands.specs.declared.windows.Span.{Span}
use Rattle.scxsim_template.specs.declared.template.TheConstants.{TOP, CODE}
use Rattle.scxsim_page.specs.Stretches.{at_most_64_bits, stretches_in}
use Rattle.scxsim_template.specs.Pieces.{shortest_width}

-- a page with what is made of a run, from its first byte to its last
abbrev pub page : List ℕ → List ℕ
page made = TOP.now ++ made ++ CODE.now

-- in that window the run has more stretches than a page holds; the refusal has their number
abbrev pub IsPast : Window → Scenario → SimState → Refusal → Type 0
IsPast window x s r =
    (r ≡ TooManyStretches (stretches_in window x s)) × MOST_STRETCHES < stretches_in window x s

-- it has, and is a part that words name
abbrev pub IsPastPart : Bool → Window → Scenario → SimState → Refusal → Type 0
IsPastPart is_part window x s r = (is_part ≡ true) × IsPast window x s r

-- the part of the run that words name has too many
abbrev pub HasTooMany : Scenario → SimState → Option Span → Refusal → Type 0
HasTooMany x s span r =
    (window : Window) × IsWindow (workload_of x).ms span window
    × IsPastPart (is_some span) window x s r

-- the texts are those of a run of which that part has too many
abbrev pub IsTooLarge : List ℕ → List ℕ → Option Span → Refusal → Type 0
IsTooLarge policy scenario span r =
    (x : Scenario) × (s : SimState) × IsScenarioRun policy scenario x s × HasTooMany x s span r

-- the texts are refused, or the words are, or a page of a part would be too large
abbrev pub IsPageCause : List ℕ → List ℕ → Option Span → Refusal → Type 0
IsPageCause policy scenario span r =
    IsScenarioPartCause policy scenario span r ⊎ IsTooLarge policy scenario span r

-- the milliseconds of a window
abbrev pub window_length : Window → ℕ
window_length window = window.to - window.from

-- whether tasks have at most as many milliseconds together as a page holds stretches
abbrev pub surely_fits : ℕ → ℕ → Bool
surely_fits tasks span = nat_le (at_most_64_bits (span * tasks)) MOST_STRETCHES

-- all of the window's stretches fit a page
abbrev pub AllFit : Window → Scenario → SimState → Type 0
AllFit window x s =
    (surely_fits (length (workload_of x).homes) (window_length window) ≡ true)
    ⊎ (stretches_in window x s ≤ MOST_STRETCHES)

-- up to what length stretches are drawn together: only those of a whole run are, if they don't fit
abbrev pub IsWidth : Bool → Window → Scenario → SimState → Option ℕ → Type 0
IsWidth is_part window x s None = AllFit window x s
IsWidth is_part window x s (Some width) =
    (is_part ≡ false) × (MOST_STRETCHES < stretches_in window x s)
    × (width ≡ shortest_width (length (workload_of x).homes) (window_length window)
    MOST_STRETCHES)
