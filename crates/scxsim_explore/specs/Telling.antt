-- The output of a search through lists of events.
use Rattle.std.specs.Prelude.{◌≡◌, ◌≢◌, ℕ, ◌+◌, ◌-◌, ◌^◌, ◌≤◌, min, ⊤, ◌⊎◌, length, All, Bool, true, false, ◌||◌, List, [], ◌++◌, Option, Some, None, is_none, IfSome, IsSome}
use Rattle.std.specs.Io.KnownBytes.{Appends}
use Rattle.scx_load_workloads.specs.Workload.{WorkloadState}
use Rattle.scx_sched_world.specs.World.{binds}
use Rattle.scx_sched_world.specs.declared.faults.Fault.{Fault}
use Rattle.scx_sched_machine.specs.declared.events.Event.{Event}
use Rattle.scx_sched.specs.Sim.{SimState}
use Rattle.scxsim_trace.specs.Lines.{NameLists, names_of}
use Rattle.scx_explore_findings.specs.declared.finding.Sort.{Sort}
use Rattle.scx_explore_findings.specs.declared.finding.Sort.TheVariants as sort
use Rattle.scx_explore_findings.specs.Findings.{Shows, sort_of}
use Rattle.scx_explore_findings.specs.WholeForms.{IsWholeInRuns}
use Rattle.scx_explore_bounds.specs.Repeats.{most_in_rows}
use Rattle.scx_explore_bounds.specs.declared.bounds.Bounds.{Bounds}
use Rattle.scx_explore_bounds.specs.declared.bounds.Mode.{Mode}
use Rattle.scx_explore_bounds.specs.declared.bounds.Mode.TheVariants as mode
use Rattle.scx_explore_states.specs.declared.form.Form.{Form}
use Rattle.scx_explore_audit.specs.declared.table.Moves.{Moves}
use Rattle.scx_explore_audit.specs.declared.table.Moves.TheVariants as moves
use Rattle.scx_explore_audit.specs.Closed.{AreNumbersOf, FollowsRuns}
use Rattle.scx_explore_audit.specs.Laws.{NoneIn}
use Rattle.scx_explore_audit.specs.Whole.{NeedsNoPremise}
use Rattle.scx_load_replay.specs.WorkloadFiles.{IsFileOf}
use Rattle.scx_explore.specs.declared.starts.Starts.{Starts}
use Rattle.scx_explore_bounds.specs.Forms.{may_load_counts, are_apart, IsFormFrom}
use Rattle.scx_explore.specs.Ends.{HasNoNew, done_of}
use Rattle.scxsim_runs.specs.Runs.{IsRun}
use Rattle.scxsim_explore.specs.declared.limits.Limit.{Limit}
use Rattle.scxsim_explore.specs.declared.limits.Lists.{Lists}
use Rattle.scxsim_explore_lines.specs.Found.{ToldList, told_texts}
use Rattle.scxsim_explore_lines.specs.Causes.{IsCause}
use Rattle.scxsim_explore_lines.specs.Summary.{Depths, Nones, memory_line, search_text, summary_text}
use Rattle.scxsim_explore_lines.specs.Sought.{is_answered}
use Rattle.scxsim_explore.specs.Words.{IsBoundsOf, IsPast, IsWithin, limit_line}

-- The text after the trace of a list, if there is one. A list of `events` has none. In the other
-- modes it is the file of a workload with the same parts, whose events begin with the list.
abbrev pub HasFile : Mode → WorkloadState → SimState → List Event → Option (List ℕ) → Type 0
HasFile mode.Events w s events file = file ≡ None
HasFile mode.Milliseconds w s events file = IfSome file (IsFileOf w s events)
HasFile mode.Workloads w s events file = IfSome file (IsFileOf w s events)

-- The machine shows that the list ends in what is said to be found in it. If a cause is told, that
-- is the place at which the machine ejects the policy. Its file is one of these, if it has one.
pub record IsShown (m : Mode) (w : WorkloadState) (s : SimState) (t : ToldList) : Type 0 where
  pub ends : Shows w.homes s t.events t.finding
  pub cause : IfSome t.cause (IsCause s t.events)
  pub file : HasFile m w s t.events t.file

-- ---- what is in none of the lists

-- the moves of which lists of the mode are made, if they may be audited
abbrev pub moves_of : Mode → Option Moves
moves_of mode.Events = Some moves.Events
moves_of mode.Milliseconds = Some moves.Milliseconds
moves_of mode.Workloads = None

-- no weight changes in lists of the mode
abbrev pub HasNoChanges : Mode → WorkloadState → Type 0
HasNoChanges mode.Events w = w.changes ≡ []
HasNoChanges mode.Milliseconds w = ⊤
HasNoChanges mode.Workloads w = ⊤

-- With that form and numbers of the machine's queues, no list of such moves shows anything of these
-- sorts, of any number of moves or up to the limit, if what the form leaves out of a state changes
-- nothing in runs of fewer events than `room`, where callbacks run as they were verified.
abbrev pub IsSureBy : Form → Moves → Option ℕ → List Sort → SimState → ℕ → Type 0
IsSureBy form moves limit sorts first room =
    (ids : List ℕ) × AreNumbersOf first ids
    × (FollowsRuns form ids moves sorts first room → NoneIn moves limit sorts first)

-- This is sure with a room no greater than the most events of a list within the bounds.
pub record IsSure
    (form : Form) (b : Bounds) (moves : Moves) (limit : Option ℕ) (sorts : List Sort)
    (first : SimState) : Type 0 where
  pub room : ℕ
  pub few :
      room
      ≤ most_in_rows form.slices b (length first.state.world.tasks) (length first.state.world.cpus)
  pub none : IsSureBy form moves limit sorts first room
  -- of a form that keeps everything nothing is presumed
  pub whole : NeedsNoPremise form moves limit sorts first room

-- The summary may only say that states were audited if the lists of its lines are all lists of such
-- moves, and if it is sure that none of these shows anything of their sorts. It says nothing of
-- tasks that are overtaken.
pub record IsGoneThrough
    (form : Form) (w : WorkloadState) (first : SimState) (n : Nones) (moves : Moves) : Type 0
  where
    pub of_mode : moves_of n.bounds.mode ≡ Some moves
    pub all : n.bounds.few ≡ None
    pub changes : HasNoChanges n.bounds.mode w
    pub sure : IsSure form n.bounds moves n.reach n.sorts first

-- all lists within the bounds are made of such moves, so that they may be audited
pub record MayBeLooked (b : Bounds) (w : WorkloadState) (moves : Moves) : Type 0 where
  pub of_mode : moves_of b.mode ≡ Some moves
  pub all : b.few ≡ None
  pub changes : HasNoChanges b.mode w

-- the lists within the bounds are made of no such moves
abbrev pub CantBeLooked : Bounds → WorkloadState → Type 0
CantBeLooked b w = (moves : Moves) → ¬ MayBeLooked b w moves

-- the search went as far as the bounds ask, or a depth doesn't fit, or the last one has no new
-- state
abbrev pub IsThrough : Bounds → Depths → ℕ → Type 0
IsThrough b d depth = (b.depth ≤ depth) ⊎ (IsSome d.misfit ⊎ HasNoNew d.last)

-- The lists of which it is said that nothing was found in them. These are lists of any length only
-- if they were audited or, where they can't be, if the last depth of the search has no new state.
-- Otherwise they are lists up to the last depth.
pub record IsReach (b : Bounds) (w : WorkloadState) (d : Depths) (n : Nones) : Type 0 where
  pub any : n.reach ≡ None → IsSome n.again ⊎ (CantBeLooked b w × HasNoNew d.last)
  pub some : IfSome n.reach (λ depth. (depth ≡ done_of d.last) × IsThrough b d depth)
  pub misfit : IfSome d.misfit (λ depth. depth ≡ min (done_of d.last + 1) (2 ^ 64 - 1))

-- nothing of that sort was found in these lists
abbrev pub HasNone : List ToldList → Sort → Type 0
HasNone found x = All (λ t. sort_of t.finding ≢ Some x) found

-- the host tracks idle CPUs: where the policy has no `update_idle`, or wants both
abbrev pub tracks_idle : Starts → SimState → Bool
tracks_idle starts first = is_none starts.update_idle || first.state.policy.keeps_idle

-- The summary says of no sort both that it was found and that it wasn't, and of lists of events
-- nothing of stalls that weren't. Where it names faults, it speaks of each fault that the lists are
-- asked about: those that weren't found are all of them.
pub record AreApart
    (starts : Starts) (first : SimState) (found : List ToldList) (n : Nones) : Type 0
  where
    pub sorts : All (HasNone found) n.sorts
    pub overtaken : n.overtaken ≡ true → HasNone found sort.Overtaken
    pub stalls : n.bounds.mode ≡ mode.Events → All (λ x. x ≢ sort.Stall) n.sorts
    pub faults :
        n.all_faults ≡ true → (f : Fault)
        → is_answered (tracks_idle starts first) (binds first.state.world) found n.sorts f ≡ true

-- ---- all of it

-- the summary, the lists of its lines, and those of the longest wait and the most instructions
abbrev pub lists_text : NameLists → SimState → List ToldList → Nones → List ToldList → List ℕ
lists_text x s found n most =
    summary_text x found n ++ told_texts x s n.bounds.mode found
    ++ told_texts x s n.bounds.mode most

-- how far the search came, and a line if memory ran out
abbrev pub last_text : Starts → Mode → Depths → Bool → List ℕ
last_text starts m d whole = search_text starts m d ++ memory_line whole

-- The text is written of lists within the bounds. The machine shows each list, those of which the
-- summary says what was found in them and the others. If a line says that states were audited, what
-- the summary says of lists in which nothing was found holds. Otherwise it is only what the search
-- says.
pub record IsTold
    (form : Form) (w : WorkloadState) (first : SimState) (b : Bounds) (whole : Bool)
    (old new : Option (List ℕ)) : Type 0
  where
    pub found : List ToldList
    pub nones : Nones
    pub most : List ToldList
    pub starts : Starts
    pub depths : Depths
    pub text :
        Appends old new
        (lists_text (names_of w) first found nones most ++ last_text starts b.mode depths whole)
    pub shown : All (IsShown b.mode w first) found
    pub others : All (IsShown b.mode w first) most
    pub bounds : nones.bounds ≡ b
    pub apart : AreApart starts first found nones
    pub reach : IsReach b w depths nones
    pub again : IfSome nones.again (IsGoneThrough form w first nones)

-- the form tells tasks apart, as it always does but in lists of events
abbrev pub TellsApart : Bounds → Form → Type 0
TellsApart b form = b.mode ≡ mode.Events → form.names ≡ true

-- a form that tells tasks apart keeps all that the policy's programs can read in their runs
abbrev pub KeepsAllRead : Bounds → SimState → Form → Type 0
KeepsAllRead b first form = TellsApart b form → IsWholeInRuns first.state.policy form

-- The form tells tasks apart where there are few of them, all lists are searched, states need no
-- slices, and no program may load a slice or a run time.
abbrev pub TellsFewApart :
    (policy : List ℕ) (b : Bounds) (first : SimState) (form : Form)
    → IsFormFrom policy b first form → Type 0
TellsFewApart policy b first form f =
    are_apart b first.state.world ≡ true
    → may_load_counts f.of_policy.form.uses ≡ false
    → form.names ≡ true

-- Nothing is presumed if the form tells tasks apart: if a line says that states were audited, no
-- list shows anything of its sorts.
abbrev pub NeedsNothing : Bounds → SimState → Form → Nones → Type 0
NeedsNothing b first form n =
    TellsApart b form → IfSome n.again (λ moves. NoneIn moves n.reach n.sorts first)

-- The output has the summary, lists within the bounds, each with its events and its trace, and a
-- last line if memory ran out meanwhile. The machine of the texts accepts each list, and the list
-- ends in what is said of it. States have the form that the policy's programs decide, as it suits
-- the machine, which is past no limit; it leaves out nothing that these can read where it tells
-- tasks apart, as it does with few of them if no program may load a slice or a run time.
pub record IsExplored
    (policy workload : List ℕ) (b : Bounds) (whole : Bool) (old new : Option (List ℕ)) : Type 0
  where
    pub of_workload : WorkloadState
    pub first : SimState
    pub run : IsRun policy workload of_workload first
    pub within : IsWithin b of_workload first
    pub form : Form
    pub of_policy : IsFormFrom policy b first form
    pub keeps : KeepsAllRead b first form
    pub apart : TellsFewApart policy b first form of_policy
    pub told : IsTold form of_workload first b whole old new
    pub sure : NeedsNothing b first form told.nones

-- the line of a limit is written that a word or the run of the texts is past
abbrev pub IsLimited :
    List ℕ → List ℕ → Lists → Option (List ℕ) → Option (List ℕ) → Type 0
IsLimited policy workload l old new =
    (past : Limit) × IsPast policy workload l past × Appends old new (limit_line past)

-- The output for that answer: lists within the bounds that the arguments name. The answer is false
-- if an argument or the machine is past a limit, and if memory ran out meanwhile.
abbrev pub IsAnswer :
    Bool → List ℕ → List ℕ → Lists → Option (List ℕ) → Option (List ℕ) → Type 0
IsAnswer true policy workload l old new =
    (b : Bounds) × IsBoundsOf l b × IsExplored policy workload b true old new
IsAnswer false policy workload l old new =
    IsLimited policy workload l old new
    ⊎ ((b : Bounds) × IsBoundsOf l b × IsExplored policy workload b false old new)
