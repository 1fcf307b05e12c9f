-- Lists that are kept until they are written. No public clause cites it.
use Rattle.std.specs.Prelude.{◌≡◌, ℕ, List, [], ◌∷◌, ◌++◌, Bool, false, All, Option, Some, None, ◌⊎◌}
use Rattle.std.specs.Io.KnownBytes.{Appends}
use Rattle.scx_load_workloads.specs.Workload.{WorkloadState}
use Rattle.scx_load_driver.specs.Runs.{stepped_all}
use Rattle.scx_sched.specs.Sim.{SimState}
use Rattle.scx_explore_findings.specs.Path.{IsAs}
use Rattle.scx_explore_bounds.specs.declared.bounds.Mode.{Mode}
use Rattle.scxsim_trace.specs.Lines.{names_of}
use Rattle.scxsim_explore_lines.specs.Found.{ToldList, told_texts}
use Rattle.scxsim_explore_lines.specs.Summary.{Nones}
use Rattle.scxsim_explore.specs.Telling.{IsShown, lists_text}

-- the machine shows the list, and keeps its policy and its size along it
pub record IsKept (m : Mode) (w : WorkloadState) (s : SimState) (t : ToldList) : Type 0 where
  pub shown : IsShown m w s t
  pub alike : IsAs s (stepped_all s t.events)

-- the list is added to others and the flag stays, or it is left out and the flag is false
abbrev pub Adds : Option ToldList → List ToldList → Bool → List ToldList → Bool → Type 0
Adds None old was new is = (new ≡ old) × (is ≡ was)
Adds (Some t) old was new is =
    ((new ≡ old ++ t ∷ []) × (is ≡ was)) ⊎ ((new ≡ old) × (is ≡ false))

-- lists are written, each of which the machine shows
abbrev pub HasTold : Mode → WorkloadState → SimState → Option (List ℕ) → Option (List ℕ) → Type 0
HasTold m w s old new =
    (told : List ToldList) × All (IsShown m w s) told
    × Appends old new (told_texts (names_of w) s m told)

-- the summary of lists is written, these lists, and others that the machine shows
abbrev pub HasLists :
    WorkloadState → SimState → List ToldList → Nones → Option (List ℕ) → Option (List ℕ) → Type 0
HasLists w s found n old new =
    (most : List ToldList) × All (IsShown n.bounds.mode w s) most
    × Appends old new (lists_text (names_of w) s found n most)
