-- The figures of a run as tables for people, with a line of heads above each.
use Rattle.std.specs.Prelude.{ℕ, ℤ, Bool, true, false, if◌then◌else◌, List, [], ◌∷◌, ◌++◌, codes, decimal, length, Option, Some, None, is_none}
use Rattle.std.specs.Fmt.{signed_decimal}
use Rattle.scx_sched_world.specs.Faults.{fault_number}
use Rattle.scx_sched_world.specs.declared.eject.Eject.{Eject}
use Rattle.scx_sched_world.specs.declared.eject.Eject.TheVariants as cause
use Rattle.scxsim_views.specs.Lengths.{Lengths, mean, percentile}
use Rattle.scxsim_statistics.specs.declared.gathering.Figures.{Figures}
use Rattle.scxsim_statistics.specs.declared.group_waits.GroupWaits.{GroupWaits}
use Rattle.scxsim_statistics.specs.declared.groups.GroupFigures.{GroupFigures}
use Rattle.scxsim_statistics.specs.declared.latencies.LatencyFigures.{LatencyFigures}
use Rattle.scxsim_views.specs.declared.quotas.QuotaFigures.{QuotaFigures}
use Rattle.scxsim_statistics.specs.declared.tally.CpuFigures.{CpuFigures}
use Rattle.scxsim_statistics.specs.declared.tally.TaskFigures.{TaskFigures}
use Rattle.scxsim_output.specs.Texts.{all_below}
use Rattle.scxsim_statistics.specs.Cells.{left, right, numbers_right, hundredths_right}
use Rattle.scxsim_statistics.specs.Numbered.{task_name, group_name, of_task, latencies_of, waits_of_group, of_cpu, of_group, limit_of, has_quota}

-- ---- tasks

-- how long waits were: in the mean, 99 of 100 of them, the longest, and when that began
unfoldable pub wait_cells : Lengths → List ℕ
wait_cells x =
    hundredths_right 12 (mean x)
    ++ numbers_right (percentile 99 x ∷ x.longest ∷ x.longest_since ∷ [])

-- the cells of a task: its name, how long it ran, its waits, and how often it woke and stopped
unfoldable pub task_cells : List ℕ → TaskFigures → List ℕ
task_cells name x =
    left 16 name ++ numbers_right (x.run ∷ x.waits.count ∷ []) ++ wait_cells x.waits
    ++ numbers_right (x.wakes ∷ x.stopped ∷ [])

-- for how long it was parked, if a group has a quota
unfoldable pub parked_cell : Bool → TaskFigures → List ℕ
parked_cell parked x = if parked then numbers_right (x.parked ∷ []) else []

-- the line of the task of that number
unfoldable pub task_row : Figures → ℕ → List ℕ
task_row f t =
    task_cells (task_name f t) (of_task f t) ++ parked_cell (has_quota f) (of_task f t)
    ++ codes "\n"

-- the end of the line of heads above the tasks
unfoldable pub task_heads : Figures → List ℕ
task_heads f = (if has_quota f then codes "   parked" else []) ++ codes "\n"

-- the tasks, from the end of the line of their heads on
unfoldable pub task_table : Figures → List ℕ
task_table f = task_heads f ++ all_below (task_row f) (length f.tasks.items)

-- ---- CPUs

-- the line of a CPU
unfoldable pub cpu_line : ℕ → CpuFigures → List ℕ
cpu_line c x =
    left 16 (decimal c) ++ numbers_right (x.busy ∷ x.idle ∷ []) ++ right 12 (decimal x.changes)
    ++ codes "\n"

-- the line of the CPU of that number
abbrev pub cpu_row : Figures → ℕ → List ℕ
cpu_row f c = cpu_line c (of_cpu f c)

-- the CPUs
unfoldable pub cpu_table : Figures → List ℕ
cpu_table f =
    codes "cpu                  busy     idle     changes\n"
    ++ all_below (cpu_row f) (length f.cpus.items)

-- ---- groups

-- the line of a group: the share that it reached, and the one that was due to it
unfoldable pub group_line : List ℕ → GroupFigures → List ℕ
group_line name x =
    left 16 name ++ hundredths_right 8 x.reached ++ codes "%" ++ hundredths_right 8 x.due
    ++ codes "%\n"

-- the line of the group of that number
abbrev pub group_row : Figures → ℕ → List ℕ
group_row f g = group_line (group_name f g) (of_group f g)

-- the groups
unfoldable pub group_table : Figures → List ℕ
group_table f =
    codes "group               share      due\n"
    ++ all_below (group_row f) (length f.groups.items)

-- ---- quotas

-- the line of a group with that quota
unfoldable pub quota_cells : List ℕ → ℕ → QuotaFigures → List ℕ
quota_cells name quota x =
    left 16 name ++ numbers_right (quota ∷ x.period_ms ∷ x.most ∷ x.periods ∷ [])
    ++ right 12 (decimal x.throttled_periods) ++ right 9 (decimal x.throttled) ++ codes "\n"

-- the line of a group with that quota, if it has one
abbrev pub quota_line : List ℕ → Option (ℕ × QuotaFigures) → List ℕ
quota_line name None = []
quota_line name (Some x) = quota_cells name x.0 x.1

-- the line of the quota of the group of that number
abbrev pub quota_row : Figures → ℕ → List ℕ
quota_row f g = quota_line (group_name f g) (limit_of f g)

-- the groups that have a quota, after an empty line
unfoldable pub quota_rows : Figures → List ℕ
quota_rows f =
    codes "\ngroup               quota   period     most  periods   throttled      for\n"
    ++ all_below (quota_row f) (length f.quotas.groups.items)

-- the groups that have a quota; nothing if none has one
unfoldable pub quota_table : Figures → List ℕ
quota_table f = if has_quota f then quota_rows f else []

-- ---- waits by percent, and wake-to-run latencies

-- the lengths that 50, 90 and 99 of 100 waits don't exceed
unfoldable pub percent_cells : Lengths → List ℕ
percent_cells x =
    numbers_right (percentile 50 x ∷ percentile 90 x ∷ percentile 99 x ∷ [])

-- the line of a task or group: its waits, how many wake-to-run latencies it has, these by percent,
-- and the longest of these
unfoldable pub percent_line : List ℕ → Lengths → Lengths → List ℕ
percent_line name x y =
    left 16 name ++ percent_cells x ++ numbers_right (y.count ∷ []) ++ percent_cells y
    ++ numbers_right (y.longest ∷ []) ++ codes "\n"

-- the line of a task, if its latencies are there
abbrev pub task_percents_of : List ℕ → Lengths → Option LatencyFigures → List ℕ
task_percents_of name x None = []
task_percents_of name x (Some y) = percent_line name x y.lengths

-- the line of the task of that number
abbrev pub task_percents : Figures → ℕ → List ℕ
task_percents f t = task_percents_of (task_name f t) (of_task f t).waits (latencies_of f t)

-- the line of a group, if its waits are there
abbrev pub group_percents_of : List ℕ → Option GroupWaits → List ℕ
group_percents_of name None = []
group_percents_of name (Some x) = percent_line name x.waits x.latencies

-- the line of the group of that number
abbrev pub group_percents : Figures → ℕ → List ℕ
group_percents f g = group_percents_of (group_name f g) (waits_of_group f g)

-- the tasks, after an empty line
unfoldable pub task_percent_table : Figures → List ℕ
task_percent_table f =
    codes
    "\ntask             wait 50%      90%      99% wake-run      50%      90%      99%  longest\n"
    ++ all_below (task_percents f) (length f.tasks.items)

-- the groups, after an empty line
unfoldable pub group_percent_table : Figures → List ℕ
group_percent_table f =
    codes
    "\ngroup            wait 50%      90%      99% wake-run      50%      90%      99%  longest\n"
    ++ all_below (group_percents f) (length f.groups.items)

-- ---- the policy

-- when the policy was ejected
unfoldable pub when_ejected : ℕ → List ℕ
when_ejected clock = codes "ejected at " ++ decimal clock ++ codes " ms: "

-- when the policy was ejected, and which task waited too long
unfoldable pub stall_end : List ℕ → ℕ → List ℕ
stall_end name clock = when_ejected clock ++ codes "stall " ++ name ++ codes "\n"

-- when the policy was ejected, for which fault, and words to that
unfoldable pub fault_end : ℕ → ℕ → List ℕ → List ℕ
fault_end number clock words = when_ejected clock ++ codes "fault " ++ decimal number ++ words

-- when the policy was ejected, with which code it ended itself, and words to that
unfoldable pub exit_end : ℤ → ℕ → List ℕ → List ℕ
exit_end code clock words = when_ejected clock ++ codes "exit " ++ signed_decimal code ++ words

-- the policy is in force at the end, or when and why it was ejected; of a fault or an exit with
-- these words to it
abbrev pub policy_end : Figures → Option Eject → List ℕ → List ℕ
policy_end f None words = codes "in force\n"
policy_end f (Some (cause.Stall t clock)) words = stall_end (task_name f t) clock
policy_end f (Some (cause.Fault k clock)) words = fault_end (fault_number k) clock words
policy_end f (Some (cause.Exit n clock)) words = exit_end n clock words

-- the line of the policy
unfoldable pub policy_row : Figures → List ℕ → List ℕ
policy_row f words = codes "policy  " ++ policy_end f f.ejected words

-- what `check` writes: the line of the policy, with these words to a fault or exit
unfoldable pub check_line : Figures → List ℕ → List ℕ
check_line f words = codes "policy " ++ policy_end f f.ejected words

-- the policy is in force at the end
abbrev pub is_in_force : Figures → Bool
is_in_force f = is_none f.ejected

-- ---- all of them

-- the tables of waits by percent, and the line of the policy, with these words to a fault or exit
unfoldable pub last_rows : Figures → List ℕ → List ℕ
last_rows f words =
    task_percent_table f ++ group_percent_table f ++ codes "\n" ++ policy_row f words

-- the tables of groups and quotas, those of waits by percent, and the line of the policy
unfoldable pub lower_rows : Figures → List ℕ → List ℕ
lower_rows f words = group_table f ++ quota_table f ++ last_rows f words

-- the tables of all figures, from the end of the first line on
unfoldable pub table_rows : Figures → List ℕ → List ℕ
table_rows f words =
    task_table f ++ codes "\n" ++ cpu_table f ++ codes "\n" ++ lower_rows f words

-- what `stats` writes of these figures: the heads of columns above the tasks' figures, and then all
-- the rest
abbrev pub tables : Figures → List ℕ → List ℕ
tables f words =
    codes
    "task                  run    waits        mean      99%  longest    since    wakes  stopped"
    ++ table_rows f words

-- the policy was ejected for a fault or an exit of a callback
abbrev pub is_for_callback : Option Eject → Bool
is_for_callback None = false
is_for_callback (Some (cause.Stall t clock)) = false
is_for_callback (Some (cause.Fault f clock)) = true
is_for_callback (Some (cause.Exit n clock)) = true
