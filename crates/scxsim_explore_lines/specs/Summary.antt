-- The lines of a search: what was found and what is in none of the lists, instructions before any
-- event, and how far the search came.
use Rattle.std.specs.Prelude.{ℕ, List, [], ◌++◌, Bool, true, false, ◌&&◌, ◌||◌, ◌==◌, if◌then◌else◌, Option, Some, None, codes, decimal, flat_map}
use Rattle.std.specs.List.{list_any}
use Rattle.scx_isa_semantics.specs.declared.callbacks.Callback.{Callback}
use Rattle.scx_isa_semantics.specs.declared.callbacks.Callback.TheVariants.{Init, Enable, SetWeight, UpdateIdle}
use Rattle.scx_explore_findings.specs.declared.finding.Sort.{Sort}
use Rattle.scx_explore_findings.specs.declared.finding.Sort.TheVariants as sort
use Rattle.scx_explore_findings.specs.Findings.{sort_number, sort_of}
use Rattle.scx_explore_bounds.specs.declared.bounds.Bounds.{Bounds}
use Rattle.scx_explore_bounds.specs.declared.bounds.Mode.{Mode}
use Rattle.scx_explore_bounds.specs.declared.bounds.Mode.TheVariants as mode
use Rattle.scx_explore_audit.specs.declared.table.Moves.{Moves}
use Rattle.scx_explore_audit.specs.declared.table.Moves.TheVariants as moves
use Rattle.scx_explore.specs.declared.progress.Level.{Level}
use Rattle.scx_explore.specs.declared.starts.Starts.{Starts}
use Rattle.scxsim_explore_lines.specs.declared.nones.Named.{Named}
use Rattle.scxsim_explore_lines.specs.declared.summary.Reached.{Reached}
use Rattle.scxsim_explore_lines.specs.declared.summary.Unfound.{Unfound}
use Rattle.scxsim_trace.specs.Lines.{NameLists}
use Rattle.scxsim_explore_lines.specs.Found.{ToldList, length_in, length_words, most_words}

-- ---- before any event

-- a callback takes that many instructions before any event
abbrev pub run_line : Callback → ℕ → List ℕ
run_line b n = most_words b n ++ codes " before any event\n"

-- the line of a callback, if it runs before any event
abbrev pub start_line : Callback → Option ℕ → List ℕ
start_line b None = []
start_line b (Some n) = run_line b n

-- the lines of those that run for each task
abbrev pub task_start_lines : Starts → List ℕ
task_start_lines x = start_line Enable x.enable ++ start_line SetWeight x.set_weight

-- the lines of all callbacks that may
abbrev pub start_lines : Starts → List ℕ
start_lines x =
    start_line Init x.init ++ task_start_lines x ++ start_line UpdateIdle x.update_idle

-- ---- how far the search came

-- tasks of a group may change places in a state, or may not
abbrev pub alike_line : Bool → List ℕ
alike_line false = []
alike_line true = codes "tasks of a group count as alike\n"

-- the unit of a depth, after its number
abbrev pub depth_unit : Mode → List ℕ
depth_unit mode.Events = codes ""
depth_unit mode.Milliseconds = codes " ms"
depth_unit mode.Workloads = codes " ms"

-- the number of events tried and, if states had no room, the number of visits to such states
abbrev pub tried_words : ℕ → Option ℕ → List ℕ
tried_words events None = codes " events " ++ decimal events ++ codes "\n"
tried_words events (Some n) =
    (codes " events " ++ decimal events ++ codes "") ++ (codes " again " ++ decimal n ++ codes "\n")

-- how many states were met and events tried up to a depth
abbrev pub level_line : Mode → Level → List ℕ
level_line m l =
    (codes "depth " ++ decimal l.depth ++ depth_unit m)
    ++ (codes " states " ++ decimal l.states ++ codes "") ++ tried_words l.events l.again

-- the line of a depth, if it is told
abbrev pub kept_line : Mode → Option Level → List ℕ
kept_line m None = []
kept_line m (Some l) = level_line m l

-- the end of the line of a depth that doesn't fit
abbrev pub misfit_end : Mode → List ℕ
misfit_end mode.Events = codes " does not fit\n"
misfit_end mode.Milliseconds = codes " ms does not fit\n"
misfit_end mode.Workloads = codes " ms does not fit\n"

-- the depth that doesn't fit, if one is too large
abbrev pub misfit_line : Mode → Option ℕ → List ℕ
misfit_line m None = []
misfit_line m (Some depth) = codes "depth " ++ decimal depth ++ misfit_end m

-- The depths of a search: whether tasks of a group count as alike, the depths before the last one
-- that are told, the last one, and the depth that doesn't fit.
pub record Depths : Type 0 where
  pub alike : Bool
  pub levels : List (Option Level)
  pub last : Option Level
  pub misfit : Option ℕ

-- what a program keeps of it
abbrev pub depths_of : Reached → Depths
depths_of r = record {
  alike = r.are_tasks_alike;
  levels = r.levels.now;
  last = r.last;
  misfit = r.misfit;
}

-- the lines that say it
abbrev pub depth_lines : Mode → Depths → List ℕ
depth_lines m d =
    alike_line d.alike ++ (flat_map (kept_line m) d.levels ++ kept_line m d.last)
    ++ misfit_line m d.misfit

-- ---- sorts by name

-- a fault
abbrev pub is_fault : Sort → Bool
is_fault (sort.Fault f) = true
is_fault sort.Stall = false
is_fault sort.Idle = false
is_fault sort.Overtaken = false
is_fault sort.Exit = false

-- what was found is of that sort
abbrev pub is_of : Option Sort → Sort → Bool
is_of None x = false
is_of (Some y) x = sort_number y == sort_number x

-- what was found is a fault
abbrev pub is_of_fault : Option Sort → Bool
is_of_fault None = false
is_of_fault (Some x) = is_fault x

-- the sort is one of these
abbrev pub has_sort : List Sort → Sort → Bool
has_sort sorts x = list_any (λ y. sort_number y == sort_number x) sorts

-- one of the lists ends in something of that sort
abbrev pub has_found : List ToldList → Sort → Bool
has_found found x = list_any (λ (t : ToldList). is_of (sort_of t.finding) x) found

-- one of the lists ends in a fault
abbrev pub has_found_fault : List ToldList → Bool
has_found_fault found = list_any (λ (t : ToldList). is_of_fault (sort_of t.finding)) found

-- ---- what is in none of the lists

-- the name of faults: all of them, or those that weren't found
abbrev pub fault_name : Bool → List ℕ
fault_name false = codes "fault"
fault_name true = codes "other fault"

-- the text before a name, with a name before it or none, and with one after it or none
abbrev pub joint : Bool → Bool → List ℕ
joint false after = codes "no "
joint true true = codes ", "
joint true false = codes " or "

-- a name, if it is said
abbrev pub name_words : Bool → List ℕ → List ℕ → List ℕ
name_words false before name = []
name_words true before name = before ++ name

-- the names of faults and stalls, for which the host ejects the policy
abbrev pub first_names : Named → List ℕ
first_names n =
    name_words n.faults (codes "no ") (fault_name n.are_others)
    ++ name_words n.stalls (joint n.faults (n.exits || n.idles)) (codes "stall")

-- the names of the others
abbrev pub last_names : Named → List ℕ
last_names n =
    name_words n.exits (joint (n.faults || n.stalls) n.idles) (codes "exit")
    ++ name_words n.idles (joint (n.faults || (n.stalls || n.exits)) false) (codes "idle CPU")

-- the words before a depth
abbrev pub up_to : Mode → List ℕ
up_to mode.Events = codes " up to depth "
up_to mode.Milliseconds = codes " up to "
up_to mode.Workloads = codes " up to "

-- lists of any length, or up to that many events or milliseconds
abbrev pub reach_words : Mode → Option ℕ → List ℕ
reach_words m None = codes " in any list"
reach_words m (Some depth) = up_to m ++ decimal depth ++ depth_unit m

-- how many wakes and sleeps a list has at most, if that is bounded, and the line's end
abbrev pub few_words : Option ℕ → List ℕ
few_words None = codes "\n"
few_words (Some few) = codes " with " ++ decimal few ++ codes " wakes and sleeps\n"

-- these lists
abbrev pub lists_words : Bounds → Option ℕ → List ℕ
lists_words b reach = reach_words b.mode reach ++ few_words b.few

-- these sorts are in none of the lists
abbrev pub named_line : Bounds → Option ℕ → Named → List ℕ
named_line b reach n = first_names n ++ last_names n ++ lists_words b reach

-- the line names a sort
abbrev pub has_name : Named → Bool
has_name n = (n.faults || n.stalls) || (n.exits || n.idles)

-- the line of these sorts, if there is one
abbrev pub sorts_line : Bounds → Option ℕ → Named → List ℕ
sorts_line b reach n = if has_name n then named_line b reach n else []

-- the line of overtaken tasks, if it is told
abbrev pub overtaken_line : Bounds → Option ℕ → Bool → List ℕ
overtaken_line b reach false = []
overtaken_line b reach true = codes "no overtaken task" ++ lists_words b reach

-- the states were audited, by such moves
abbrev pub again_line : Option Moves → List ℕ
again_line None = []
again_line (Some moves.Events) = codes "audited: faults, idle CPUs\n"
again_line (Some moves.Milliseconds) = codes "audited: faults, stalls, idle CPUs\n"

-- The sorts of findings that no list within these bounds shows: the most events or milliseconds of
-- a list, if that is bounded; the sorts, whether those of faults may be named as all that weren't
-- found, whether overtaken tasks are one of them, and the moves by which the states were audited,
-- if they were.
pub record Nones : Type 0 where
  pub bounds : Bounds
  pub reach : Option ℕ
  pub sorts : List Sort
  pub all_faults : Bool
  pub overtaken : Bool
  pub again : Option Moves

-- what a program keeps of it
abbrev pub nones_of : Unfound → Nones
nones_of u = record {
  bounds = u.bounds;
  reach = u.reach;
  sorts = u.sorts.now;
  all_faults = u.has_all_faults;
  overtaken = u.is_overtaken;
  again = u.again;
}

-- the names of those sorts, after what was found
abbrev pub named_of : List ToldList → Nones → Named
named_of found n = record {
  are_others = has_found_fault found;
  faults = n.all_faults && list_any is_fault n.sorts;
  stalls = has_sort n.sorts sort.Stall;
  exits = has_sort n.sorts sort.Exit;
  idles = has_sort n.sorts sort.Idle;
}

-- the lines that say it, three at most
abbrev pub nones_text : List ToldList → Nones → List ℕ
nones_text found n =
    sorts_line n.bounds n.reach (named_of found n)
    ++ overtaken_line n.bounds n.reach n.overtaken ++ again_line n.again

-- ---- the summary and the end

-- the end of the line of a list: the words of the cause, if they are told
abbrev pub cause_end : Option (List ℕ) → List ℕ
cause_end None = codes "\n"
cause_end (Some words) = codes ": " ++ words ++ codes "\n"

-- what was found in a list, with the list's length
abbrev pub answer_line : NameLists → Mode → ToldList → List ℕ
answer_line x m t =
    codes "found: " ++ length_words x t.finding m (length_in m t.events) ++ cause_end t.cause

-- a line for each list
abbrev pub answer_lines : NameLists → Mode → List ToldList → List ℕ
answer_lines x m lists = flat_map (answer_line x m) lists

-- the first lines: what was found, what is in none of the lists, and an empty line
abbrev pub summary_text : NameLists → List ToldList → Nones → List ℕ
summary_text x found n = answer_lines x n.bounds.mode found ++ nones_text found n ++ codes "\n"

-- the last lines: what callbacks take before any event, and how far the search came
abbrev pub search_text : Starts → Mode → Depths → List ℕ
search_text x m d = start_lines x ++ depth_lines m d

-- memory ran out for some lines, so that they are missing
abbrev pub memory_line : Bool → List ℕ
memory_line true = []
memory_line false = codes "incomplete: out of memory\n"
