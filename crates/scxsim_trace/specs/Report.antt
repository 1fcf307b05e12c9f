-- The text of a report: the run time of each task, its part of all run time, and whether the policy
-- is in force.
use Rattle.std.specs.Prelude.{ℕ, ◌==◌, ◌+◌, ◌*◌, ◌/◌, if◌then◌else◌, List, [], ◌∷◌, ◌++◌, codes, decimal, map, sum, Option, Some, None}
use Rattle.std.specs.Fmt.{signed_decimal}
use Rattle.scx_sched_tasks.specs.declared.task.Task.{Task}
use Rattle.scx_sched_world.specs.declared.eject.Eject.{Eject}
use Rattle.scx_sched_world.specs.declared.eject.Eject.TheVariants.{Stall, Fault, Exit}
use Rattle.scx_sched_world.specs.Faults.{fault_number}
use Rattle.scx_sched_world.specs.World.{WorldState}
use Rattle.scxsim_trace.specs.Lines.{NameLists, task_name}

-- the milliseconds that a task ran
abbrev pub ran_ms : Task → ℕ
ran_ms t = t.run_ns / 1000000

-- the milliseconds that each task ran, by number
abbrev pub times : WorldState → List ℕ
times w = map ran_ms w.tasks

-- a part of a total in parts of 10000, rounded down; of a total of 0 it is 0
abbrev pub share : ℕ → ℕ → ℕ
share ms total = if total == 0 then 0 else 10000 * ms / total

-- the line of a task: its name, the milliseconds that it ran, and its part of all running
abbrev pub task_line : List ℕ → ℕ → ℕ → List ℕ
task_line name ms total =
    codes "task " ++ name
    ++ (codes " run " ++ decimal ms ++ codes " share " ++ decimal (share ms total) ++ codes "\n")

-- the lines of tasks from that number on, by the milliseconds of each
abbrev pub task_lines : NameLists → ℕ → ℕ → List ℕ → List ℕ
task_lines x total t [] = []
task_lines x total t (ms ∷ later) =
    task_line (task_name x t) ms total ++ task_lines x total (t + 1) later

-- the line of the milliseconds that all tasks together ran
abbrev pub total_line : ℕ → List ℕ
total_line total = codes "total " ++ decimal total ++ codes "\n"

-- ---- the line of the policy

-- the text before the name of a task
abbrev pub policy_start : Option Eject → List ℕ
policy_start None = codes "policy in force"
policy_start (Some (Stall t clock)) = codes "policy ejected stall "
policy_start (Some (Fault f clock)) = codes "policy ejected fault " ++ decimal (fault_number f)
policy_start (Some (Exit n clock)) = codes "policy ejected exit " ++ signed_decimal n

-- the name of the task that waited too long; empty where there was no stall
abbrev pub policy_name : NameLists → Option Eject → List ℕ
policy_name x None = []
policy_name x (Some (Stall t clock)) = task_name x t
policy_name x (Some (Fault f clock)) = []
policy_name x (Some (Exit n clock)) = []

-- the clock at which the policy was ejected, if it was, and the end of the line
abbrev pub policy_end : Option Eject → List ℕ
policy_end None = codes "\n"
policy_end (Some (Stall t clock)) = codes " at " ++ decimal clock ++ codes "\n"
policy_end (Some (Fault f clock)) = codes " at " ++ decimal clock ++ codes "\n"
policy_end (Some (Exit n clock)) = codes " at " ++ decimal clock ++ codes "\n"

-- the line that says whether the policy is in force, or why and when it was ejected
abbrev pub policy_line : NameLists → Option Eject → List ℕ
policy_line x o = policy_start o ++ policy_name x o ++ policy_end o

-- the whole report, by the milliseconds that each task ran
abbrev pub report : NameLists → List ℕ → Option Eject → List ℕ
report x all o = task_lines x (sum all) 0 all ++ total_line (sum all) ++ policy_line x o
