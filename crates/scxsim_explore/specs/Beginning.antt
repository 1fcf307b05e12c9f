-- The start of a search. No public clause cites it.
use Rattle.std.specs.Prelude.{◌≡◌, ℕ, List}
use Rattle.scx_load_workloads.specs.Workload.{WorkloadState}
use Rattle.scx_sched.specs.Sim.{SimState}
use Rattle.scx_explore_bounds.specs.declared.bounds.Bounds.{Bounds}
use Rattle.scx_explore_states.specs.declared.form.Form.{Form}
use Rattle.scx_explore_states.specs.Written.{IsSuited}
use Rattle.scx_explore_bounds.specs.Forms.{IsFormFrom}
use Rattle.scxsim_runs.specs.Runs.{IsRun}
use Rattle.scxsim_explore.specs.declared.beginning.Start.{Start}
use Rattle.scxsim_explore.specs.declared.beginning.Start.TheVariants.{Past, Within}
use Rattle.scxsim_explore.specs.Words.{IsPastIn, IsPastTexts, IsWithin}

-- the texts give the run of that workload from that machine, which is past no limit, and states of
-- lists within the bounds are written in that form
pub record IsReady
    (policy workload : List ℕ) (b : Bounds) (w : WorkloadState) (first : SimState) (form : Form) :
    Type 0
  where
    pub run : IsRun policy workload w first
    pub within : IsWithin b w first
    pub of_policy : IsFormFrom policy b first form

-- the search of that workload begins from that machine within the bounds, with states in that form
-- as it suits the machine, or the machine is past that limit
abbrev pub IsStartOf : WorkloadState → SimState → Form → Bounds → Start → Type 0
IsStartOf w first form b (Past limit) = IsPastIn b w first limit
IsStartOf w first form b (Within begun teller v f) =
    (v ≡ w) × (begun.machines ≡ first) × (teller ≡ first) × IsSuited form first f
    × IsWithin b w first

-- the search of the texts begins within the bounds, and two machines are alike, or their run is
-- past that limit
abbrev pub IsStart : List ℕ → List ℕ → Bounds → Start → Type 0
IsStart policy workload b (Past limit) = IsPastTexts policy workload b limit
IsStart policy workload b (Within begun teller w form) =
    (teller ≡ begun.machines) × IsReady policy workload b w begun.machines form
