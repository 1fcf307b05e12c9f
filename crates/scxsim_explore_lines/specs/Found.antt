-- The text of a list of events in which something was found: what it is, the events, their trace,
-- and the workload file that begins with them.
use Rattle.std.specs.Prelude.{ℕ, ◌+◌, nat_eq, if◌then◌else◌, List, [], ◌∷◌, ◌++◌, length, Bool, true, false, Option, Some, None, codes, decimal, flat_map}
use Rattle.std.specs.Fmt.{signed_decimal}
use Rattle.scx_isa_semantics.specs.declared.callbacks.Callback.{Callback}
use Rattle.scx_isa_semantics.specs.Callbacks.{callback_name}
use Rattle.scx_sched_world.specs.Faults.{fault_number}
use Rattle.scx_sched_machine.specs.declared.events.Event.{Event}
use Rattle.scx_sched_machine.specs.declared.events.Event.TheVariants.{Wake, Sleep, Tick, Clock, SetWeight, SetTaskWeight}
use Rattle.scx_sched.specs.Sim.{SimState}
use Rattle.scx_load_driver.specs.Runs.{notes_of_all}
use Rattle.scxsim_trace.specs.Lines.{NameLists, task_name, group_name, note_lines}
use Rattle.scx_explore_findings.specs.declared.finding.Finding.{Finding}
use Rattle.scx_explore_findings.specs.declared.finding.Finding.TheVariants.{Fault, Stall, Exit, Idle, Overtaken, Waits, Takes}
use Rattle.scx_explore_bounds.specs.declared.bounds.Mode.{Mode}
use Rattle.scx_explore_bounds.specs.declared.bounds.Mode.TheVariants as mode

-- ---- what was found

-- a CPU is idle while a task waits
abbrev pub idle_words : NameLists → ℕ → ℕ → List ℕ
idle_words x c t =
    (codes "idle cpu " ++ decimal c ++ codes " while ")
    ++ (codes "" ++ task_name x t ++ codes " waits")

-- a task waits while another one began to run twice
abbrev pub overtaken_words : NameLists → ℕ → ℕ → List ℕ
overtaken_words x t u =
    (codes "overtaken " ++ task_name x t ++ codes " by ")
    ++ (codes "" ++ task_name x u ++ codes "")

-- a task waits for that many milliseconds
abbrev pub wait_words : NameLists → ℕ → ℕ → List ℕ
wait_words x t ms =
    (codes "longest wait " ++ decimal ms ++ codes " ms of ")
    ++ (codes "" ++ task_name x t ++ codes "")

-- a callback takes that many instructions
abbrev pub most_words : Callback → ℕ → List ℕ
most_words b n =
    (codes "most instructions " ++ decimal n ++ codes " of ") ++ callback_name b

-- what was found
abbrev pub finding_words : NameLists → Finding → List ℕ
finding_words x (Fault f) = codes "fault " ++ decimal (fault_number f) ++ codes ""
finding_words x (Stall t) = codes "stall of " ++ task_name x t ++ codes ""
finding_words x (Exit n) = codes "exit " ++ signed_decimal n ++ codes ""
finding_words x (Idle c t) = idle_words x c t
finding_words x (Overtaken p) = overtaken_words x p.waits p.runs
finding_words x (Waits t ms) = wait_words x t ms
finding_words x (Takes b n) = most_words b n

-- ---- the length of a list

-- the event is the clock's
abbrev pub is_clock : Event → Bool
is_clock (Wake t) = false
is_clock (Sleep t) = false
is_clock (Tick c) = false
is_clock Clock = true
is_clock (SetWeight g w) = false
is_clock (SetTaskWeight t w) = false

-- the number of milliseconds that a list begins, where its first event begins one or doesn't; an
-- event after a clock begins one
abbrev pub ms_begun : List Event → Bool → ℕ
ms_begun [] first = 0
ms_begun (e ∷ es) true = 1 + ms_begun es (is_clock e)
ms_begun (e ∷ es) false = ms_begun es (is_clock e)

-- the length of a list: the number of its events or, in the other modes, of the milliseconds that
-- it begins
abbrev pub length_in : Mode → List Event → ℕ
length_in mode.Events es = length es
length_in mode.Milliseconds es = ms_begun es true
length_in mode.Workloads es = ms_begun es true

-- the unit of a length, after its number
abbrev pub unit : Mode → ℕ → List ℕ
unit mode.Events n = if nat_eq n 1 then codes " event" else codes " events"
unit mode.Milliseconds n = codes " ms"
unit mode.Workloads n = codes " ms"

-- the words before what was found, at the head of a list
abbrev pub head_word : Finding → List ℕ
head_word (Fault f) = codes "found "
head_word (Stall t) = codes "found "
head_word (Exit n) = codes "found "
head_word (Idle c t) = codes "found "
head_word (Overtaken p) = codes "found "
head_word (Waits t ms) = codes ""
head_word (Takes b n) = codes ""

-- what was found in a list of that length
abbrev pub length_words : NameLists → Finding → Mode → ℕ → List ℕ
length_words x f m depth = finding_words x f ++ (codes " after " ++ decimal depth ++ unit m depth)

-- the line at the head of such a list
abbrev pub found_line : NameLists → Finding → Mode → ℕ → List ℕ
found_line x f m depth = head_word f ++ length_words x f m depth ++ codes "\n"

-- ---- the list

-- A list of events, what is said to be found in it, the words of its cause, if they are told, and
-- the workload file after its trace, if there is one.
pub record ToldList : Type 0 where
  pub finding : Finding
  pub events : List Event
  pub cause : Option (List ℕ)
  pub file : Option (List ℕ)

-- the line of a group's new weight
abbrev pub weight_line : NameLists → ℕ → ℕ → List ℕ
weight_line x g w =
    (codes "weight " ++ group_name x g ++ codes " ") ++ (codes "" ++ decimal w ++ codes "\n")

-- the line of a task's new weight of its own
abbrev pub own_weight_line : NameLists → ℕ → ℕ → List ℕ
own_weight_line x t w =
    (codes "task_weight " ++ task_name x t ++ codes " ") ++ (codes "" ++ decimal w ++ codes "\n")

-- the line of an event
abbrev pub event_line : NameLists → Event → List ℕ
event_line x (Wake t) = codes "wake " ++ task_name x t ++ codes "\n"
event_line x (Sleep t) = codes "sleep " ++ task_name x t ++ codes "\n"
event_line x (Tick c) = codes "tick " ++ decimal c ++ codes "\n"
event_line x Clock = codes "clock\n"
event_line x (SetWeight g w) = weight_line x g w
event_line x (SetTaskWeight t w) = own_weight_line x t w

-- a line for each event
abbrev pub event_lines : NameLists → List Event → List ℕ
event_lines x events = flat_map (event_line x) events

-- what was found in a list that a machine is given, its events, and their trace
abbrev pub list_text : NameLists → SimState → Finding → Mode → List Event → List ℕ
list_text x s f m events =
    found_line x f m (length_in m events) ++ event_lines x events
    ++ (codes "trace\n" ++ note_lines x (notes_of_all s events))

-- a workload file after its heading, and an empty line
abbrev pub workload_text : List ℕ → List ℕ
workload_text file = codes "workload\n" ++ file ++ codes "\n"

-- the text after the trace: a workload file whose events begin with the list, if there is one, and
-- an empty line
abbrev pub file_text : Option (List ℕ) → List ℕ
file_text None = codes "\n"
file_text (Some file) = workload_text file

-- all of it
abbrev pub told_text : NameLists → SimState → Mode → ToldList → List ℕ
told_text x s m t = list_text x s t.finding m t.events ++ file_text t.file

-- lists, one after another
abbrev pub told_texts : NameLists → SimState → Mode → List ToldList → List ℕ
told_texts x s m lists = flat_map (told_text x s m) lists
