-- The words that bound the lists of a search, and the limits of words and machines.
use Rattle.std.specs.Prelude.{◌≡◌, ◌≢◌, ℕ, ◌<◌, ◌≤◌, ⊤, ◌⊎◌, List, length, Option, Some, None, option_map, codes}
use Rattle.scx_maps.specs.Lending.{all_bytes}
use Rattle.scx_load_workloads.specs.Limit.{numeral}
use Rattle.scx_load_workloads.specs.Workload.{WorkloadState}
use Rattle.scx_sched.specs.Sim.{SimState}
use Rattle.scx_explore_bounds.specs.declared.bounds.Bounds.{Bounds}
use Rattle.scx_explore_bounds.specs.declared.bounds.Mode.{Mode}
use Rattle.scx_explore_bounds.specs.declared.bounds.Mode.TheVariants as mode
use Rattle.scxsim_runs.specs.Runs.{IsRun}
use Rattle.scxsim_explore.specs.declared.limits.Lists.{Lists}
use Rattle.scxsim_explore.specs.declared.limits.Limit.{Limit}
use Rattle.scxsim_explore.specs.declared.limits.Limit.TheVariants as limit

-- ---- the bounds that words name

-- the word MODE of a mode
abbrev pub mode_word : Mode → List ℕ
mode_word mode.Events = codes "events"
mode_word mode.Milliseconds = codes "ms"
mode_word mode.Workloads = codes "workloads"

-- the greatest DEPTH: events in the first mode, milliseconds in the others
abbrev pub most_depth : Mode → ℕ
most_depth mode.Events = 64
most_depth mode.Milliseconds = 65535
most_depth mode.Workloads = 65535

-- the word DEPTH says this number, from 1 to the greatest one
pub record IsDepth (m : Mode) (word : List ℕ) (depth : ℕ) : Type 0 where
  pub number : numeral word ≡ Some depth
  pub least : 1 ≤ depth
  pub most : depth ≤ most_depth m

-- the word K says this number, up to 64; without a word there is no bound
abbrev pub IsFew : Option (List ℕ) → Option ℕ → Type 0
IsFew None None = ⊤
IsFew None (Some few) = ⊥
IsFew (Some word) None = ⊥
IsFew (Some word) (Some few) = (numeral word ≡ Some few) × (few ≤ 64)

-- the word K, if there is one
abbrev pub few_word : Lists → Option (List ℕ)
few_word l = option_map (λ word. word.now) l.few

-- the words name these bounds
pub record IsBoundsOf (l : Lists) (b : Bounds) : Type 0 where
  pub mode : l.mode.now ≡ mode_word b.mode
  pub depth : IsDepth b.mode l.depth.now b.depth
  pub few : IsFew (few_word l) b.few

-- ---- limits: of several the first one counts, in this order

-- the line of a limit
abbrev pub limit_line : Limit → List ℕ
limit_line limit.Mode = codes "refused: word MODE: no such mode\n"
limit_line limit.Depth = codes "refused: word DEPTH: out of range\n"
limit_line limit.Few = codes "refused: word K: out of range\n"
limit_line limit.Tasks = codes "refused: explore: too many tasks\n"
limit_line limit.Cpus = codes "refused: explore: too many processors\n"
limit_line limit.Maps = codes "refused: explore: maps too large\n"
limit_line limit.Changes = codes "refused: explore: too many changes\n"

-- MODE is the word of no mode
abbrev pub IsNoMode : List ℕ → Type 0
IsNoMode word = (m : Mode) → word ≢ mode_word m

-- DEPTH says no number that lists of that mode may have
abbrev pub IsNoDepth : Mode → List ℕ → Type 0
IsNoDepth m word = (depth : ℕ) → ¬ IsDepth m word depth

-- K is there and says no number up to 64
abbrev pub IsNoFew : Option (List ℕ) → Type 0
IsNoFew word = (few : Option ℕ) → ¬ IsFew word few

-- the first wrong word has that limit
abbrev pub IsPastWords : Lists → Limit → Type 0
IsPastWords l limit.Mode = IsNoMode l.mode.now
IsPastWords l limit.Depth = (m : Mode) × (l.mode.now ≡ mode_word m) × IsNoDepth m l.depth.now
IsPastWords l limit.Few =
    (m : Mode) × (l.mode.now ≡ mode_word m) × (depth : ℕ) × IsDepth m l.depth.now depth
    × IsNoFew (few_word l)
IsPastWords l limit.Tasks = ⊥
IsPastWords l limit.Cpus = ⊥
IsPastWords l limit.Maps = ⊥
IsPastWords l limit.Changes = ⊥

-- the machine is small enough: the most tasks, CPUs and bytes of maps
pub record IsSmall (s : SimState) : Type 0 where
  pub tasks : length s.state.world.tasks ≤ 8
  pub cpus : length s.state.world.cpus ≤ 4
  pub maps : length (all_bytes s.state.maps) ≤ 1048576

-- the machine is past that limit of its size, and past none before it
abbrev pub IsLarge : SimState → Limit → Type 0
IsLarge s limit.Tasks = 8 < length s.state.world.tasks
IsLarge s limit.Cpus = (length s.state.world.tasks ≤ 8) × (4 < length s.state.world.cpus)
IsLarge s limit.Maps =
    (length s.state.world.tasks ≤ 8) × (length s.state.world.cpus ≤ 4)
    × (1048576 < length (all_bytes s.state.maps))
IsLarge s limit.Mode = ⊥
IsLarge s limit.Depth = ⊥
IsLarge s limit.Few = ⊥
IsLarge s limit.Changes = ⊥

-- the workload changes weights more often than lists of events may try
abbrev pub HasManyChanges : Bounds → WorkloadState → Type 0
HasManyChanges b w = (b.mode ≡ mode.Events) × (64 < length w.changes)

-- this machine and workload are past that limit in lists within the bounds, and past none before it
abbrev pub IsPastIn : Bounds → WorkloadState → SimState → Limit → Type 0
IsPastIn b w s limit.Mode = ⊥
IsPastIn b w s limit.Depth = ⊥
IsPastIn b w s limit.Few = ⊥
IsPastIn b w s limit.Tasks = IsLarge s limit.Tasks
IsPastIn b w s limit.Cpus = IsLarge s limit.Cpus
IsPastIn b w s limit.Maps = IsLarge s limit.Maps
IsPastIn b w s limit.Changes = IsSmall s × HasManyChanges b w

-- the run of the texts is past that limit in lists within the bounds, and past none before it
pub record IsPastTexts (policy workload : List ℕ) (b : Bounds) (past : Limit) : Type 0 where
  pub of_workload : WorkloadState
  pub first : SimState
  pub run : IsRun policy workload of_workload first
  pub is : IsPastIn b of_workload first past

-- a word is past that limit, or none is and the run of the texts is past it
abbrev pub IsPast : List ℕ → List ℕ → Lists → Limit → Type 0
IsPast policy workload l past =
    IsPastWords l past
    ⊎ ((b : Bounds) × IsBoundsOf l b × IsPastTexts policy workload b past)

-- the workload and its machine are past no limit in lists within the bounds
pub record IsWithin (b : Bounds) (w : WorkloadState) (s : SimState) : Type 0 where
  pub small : IsSmall s
  pub changes : ¬ HasManyChanges b w
