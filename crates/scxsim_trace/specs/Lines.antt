-- The text of notes: a line each, with the names of tasks and groups. Names are in lists, by the
-- numbers of tasks and groups.
use Rattle.std.specs.Prelude.{ℕ, ◌==◌, ◌%◌, ◌^◌, nat_lt, if◌then◌else◌, List, [], ◌∷◌, ◌++◌, codes, decimal, slice_index_or}
use Rattle.std.specs.Fmt.{signed_decimal}
use Rattle.scx_sched_world.specs.Faults.{fault_number}
use Rattle.scx_sched_world.specs.Ids.{policy_end, global, held_queue, builtin_queue, parked_queue}
use Rattle.scx_sched_world.specs.declared.notes.Note.{Note}
use Rattle.scx_sched_world.specs.declared.notes.What.{What}
use Rattle.scx_sched_world.specs.declared.notes.What.TheVariants.{Wake, Sleep, Insert, Move, Run, Stop, Idle, Weight, TaskWeight, Stall, Fault, Exit}
use Rattle.scx_load_workloads.specs.Workload.{WorkloadState}

-- the names of all tasks and of all groups
pub record NameLists : Type 0 where
  pub tasks : List (List ℕ)
  pub groups : List (List ℕ)

-- the names in a workload
abbrev pub names_of : WorkloadState → NameLists
names_of w = record { tasks = w.task_names; groups = w.group_names }

-- past the end a name is empty
abbrev pub name_at : List (List ℕ) → ℕ → List ℕ
name_at names n = slice_index_or names n []

-- the name of a task; empty where there is no such task
abbrev pub task_name : NameLists → ℕ → List ℕ
task_name x t = name_at x.tasks t

-- the name of a group; empty where there is no such group
abbrev pub group_name : NameLists → ℕ → List ℕ
group_name x g = name_at x.groups g

-- the queue of that id; the low 32 bits of a local queue's id are the CPU
abbrev pub queue_text : ℕ → List ℕ
queue_text q =
    if nat_lt q policy_end then codes "queue " ++ decimal q
    else (if q == global then codes "global"
    else (if q == held_queue then codes "held"
    else (if q == builtin_queue then codes "builtin"
    else (if q == parked_queue then codes "parked" else codes "local " ++ decimal (q % 2 ^ 32)))))

-- the words for a note, with a space after them
abbrev pub verb : What → List ℕ
verb (Wake t) = codes "wake "
verb (Sleep t) = codes "sleep "
verb (Insert t q) = codes "insert "
verb (Move t c) = codes "move "
verb (Run t c) = codes "run "
verb (Stop t c) = codes "stop "
verb (Idle c) = codes "idle cpu "
verb (Weight g w) = codes "weight "
verb (TaskWeight t w) = codes "weight "
verb (Stall t) = codes "eject stall "
verb (Fault f) = codes "eject fault "
verb (Exit n) = codes "eject exit "

-- the task or the group of a note
abbrev pub subject : NameLists → What → List ℕ
subject x (Wake t) = task_name x t
subject x (Sleep t) = task_name x t
subject x (Insert t q) = task_name x t
subject x (Move t c) = task_name x t
subject x (Run t c) = task_name x t
subject x (Stop t c) = task_name x t
subject x (Idle c) = []
subject x (Weight g w) = group_name x g
subject x (TaskWeight t w) = task_name x t
subject x (Stall t) = task_name x t
subject x (Fault f) = []
subject x (Exit n) = []

-- the queue, the CPU or the number of a note
abbrev pub object : What → List ℕ
object (Wake t) = []
object (Sleep t) = []
object (Insert t q) = codes " " ++ queue_text q
object (Move t c) = codes " local " ++ decimal c
object (Run t c) = codes " cpu " ++ decimal c
object (Stop t c) = codes " cpu " ++ decimal c
object (Idle c) = decimal c
object (Weight g w) = codes " " ++ decimal w
object (TaskWeight t w) = codes " " ++ decimal w
object (Stall t) = []
object (Fault f) = decimal (fault_number f)
object (Exit n) = signed_decimal n

-- the clock, one space, and the verb
abbrev pub start : Note → List ℕ
start n = decimal n.clock ++ codes " " ++ verb n.what

-- the clock, one space, the words, and a line feed
abbrev pub note_line : NameLists → Note → List ℕ
note_line x n = start n ++ subject x n.what ++ (object n.what ++ codes "\n")

-- the lines of notes, one after another
abbrev pub note_lines : NameLists → List Note → List ℕ
note_lines x [] = []
note_lines x (n ∷ ns) = note_line x n ++ note_lines x ns
