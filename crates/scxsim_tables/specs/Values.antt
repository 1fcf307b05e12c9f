-- The figures of a run as comma-separated values, a line each: a kind, a name, which figure it is,
-- and its value.
use Rattle.std.specs.Prelude.{ℕ, ◌==◌, if◌then◌else◌, List, [], ◌++◌, codes, decimal, length, Option, Some, None, string_bytes}
use Rattle.std.specs.Fmt.{signed_decimal}
use Rattle.scx_sched_world.specs.Faults.{fault_number}
use Rattle.scx_sched_world.specs.declared.eject.Eject.{Eject}
use Rattle.scx_sched_world.specs.declared.eject.Eject.TheVariants as cause
use Rattle.scxsim_statistics.specs.Bursts.{slowdown}
use Rattle.scxsim_views.specs.Lengths.{Lengths, mean, percentile}
use Rattle.scxsim_statistics.specs.declared.bursts.BurstFigures.{BurstFigures}
use Rattle.scxsim_statistics.specs.declared.gathering.Figures.{Figures}
use Rattle.scxsim_statistics.specs.declared.group_waits.GroupWaits.{GroupWaits}
use Rattle.scxsim_statistics.specs.declared.groups.GroupFigures.{GroupFigures}
use Rattle.scxsim_statistics.specs.declared.latencies.LatencyFigures.{LatencyFigures}
use Rattle.scxsim_views.specs.declared.quotas.QuotaFigures.{QuotaFigures}
use Rattle.scxsim_statistics.specs.declared.tally.CpuFigures.{CpuFigures}
use Rattle.scxsim_statistics.specs.declared.tally.TaskFigures.{TaskFigures}
use Rattle.scxsim_output.specs.Texts.{all_below}
use Rattle.scxsim_tables.specs.declared.wait_values.LengthNames.{LengthNames}
use Rattle.scxsim_statistics.specs.Cells.{hundredths}
use Rattle.scxsim_statistics.specs.Numbered.{task_name, group_name, of_task, bursts_of, latencies_of, waits_of_group, of_cpu, lost_of, of_group, limit_of, has_quota}

-- the columns before a value, each with a comma after it
unfoldable pub start : List ℕ → List ℕ → List ℕ → List ℕ
start kind name figure = kind ++ codes "," ++ name ++ codes "," ++ figure ++ codes ","

-- the line of a figure
unfoldable pub line : List ℕ → List ℕ → List ℕ → List ℕ → List ℕ
line kind name figure value = start kind name figure ++ value ++ codes "\n"

-- ---- tasks

-- how long a task ran, how often it waited, and for how long in the mean and in 99 of 100 waits
unfoldable pub wait_lines : List ℕ → TaskFigures → List ℕ
wait_lines name x =
    line (codes "task") name (codes "run_ms") (decimal x.run)
    ++ line (codes "task") name (codes "waits") (decimal x.waits.count)
    ++ line (codes "task") name (codes "mean_wait_ms") (hundredths (mean x.waits))
    ++ line (codes "task") name (codes "wait_99_percent_ms") (decimal (percentile 99 x.waits))

-- its longest wait, and when that began
unfoldable pub longest_lines : List ℕ → TaskFigures → List ℕ
longest_lines name x =
    line (codes "task") name (codes "longest_wait_ms") (decimal x.waits.longest)
    ++ line (codes "task") name (codes "longest_wait_since_ms") (decimal x.waits.longest_since)

-- its longest wait, how often it woke, and how often it had to stop
unfoldable pub stop_lines : List ℕ → TaskFigures → List ℕ
stop_lines name x =
    longest_lines name x ++ line (codes "task") name (codes "wakes") (decimal x.wakes)
    ++ line (codes "task") name (codes "stopped") (decimal x.stopped)

-- which lengths 90 and 99 of 100 bursts of a task don't exceed
unfoldable pub most_lines : List ℕ → BurstFigures → List ℕ
most_lines name x =
    line (codes "task") name (codes "burst_90_percent_ms") (decimal (percentile 90 x.lengths))
    ++ line (codes "task") name (codes "burst_99_percent_ms") (decimal (percentile 99 x.lengths))

-- which lengths 50, 90 and 99 of 100 don't exceed
unfoldable pub percent_lines : List ℕ → BurstFigures → List ℕ
percent_lines name x =
    line (codes "task") name (codes "burst_50_percent_ms") (decimal (percentile 50 x.lengths))
    ++ most_lines name x

-- how long its bursts were
unfoldable pub length_lines : List ℕ → BurstFigures → List ℕ
length_lines name x =
    line (codes "task") name (codes "mean_burst_ms") (hundredths (mean x.lengths))
    ++ percent_lines name x
    ++ line (codes "task") name (codes "longest_burst_ms") (decimal x.lengths.longest)
    ++ line (codes "task") name (codes "slowdown") (hundredths (slowdown x))

-- how many bursts of a task finished and, if there are some, how long they were
unfoldable pub burst_lines : List ℕ → BurstFigures → List ℕ
burst_lines name x =
    line (codes "task") name (codes "bursts") (decimal x.lengths.count)
    ++ (if x.lengths.count == 0 then [] else length_lines name x)

-- the lines of its bursts, if they are there
abbrev pub burst_lines_of : List ℕ → Option BurstFigures → List ℕ
burst_lines_of name None = []
burst_lines_of name (Some x) = burst_lines name x

-- the lines of the task of that number
unfoldable pub task_values : Figures → ℕ → List ℕ
task_values f t =
    wait_lines (task_name f t) (of_task f t) ++ stop_lines (task_name f t) (of_task f t)
    ++ burst_lines_of (task_name f t) (bursts_of f t)

-- ---- CPUs

-- for how long a CPU ran tasks and ran none, and how often another task began on it
unfoldable pub cpu_lines : List ℕ → CpuFigures → List ℕ
cpu_lines name x =
    line (codes "cpu") name (codes "busy_ms") (decimal x.busy)
    ++ line (codes "cpu") name (codes "idle_ms") (decimal x.idle)
    ++ line (codes "cpu") name (codes "changes") (decimal x.changes)

-- for how long it was idle while a task waited, if that is there
unfoldable pub lost_line : List ℕ → Option ℕ → List ℕ
lost_line name None = []
lost_line name (Some ms) = line (codes "cpu") name (codes "idle_while_waiting_ms") (decimal ms)

-- the lines of the CPU of that number
unfoldable pub cpu_values : Figures → ℕ → List ℕ
cpu_values f c = cpu_lines (decimal c) (of_cpu f c) ++ lost_line (decimal c) (lost_of f c)

-- ---- groups

-- the share that a group reached, and the one that was due to it
unfoldable pub group_lines : List ℕ → GroupFigures → List ℕ
group_lines name x =
    line (codes "group") name (codes "share_percent") (hundredths x.reached)
    ++ line (codes "group") name (codes "due_percent") (hundredths x.due)

-- the lines of the group of that number
abbrev pub group_values : Figures → ℕ → List ℕ
group_values f g = group_lines (group_name f g) (of_group f g)

-- ---- quotas

-- for how long the task of that number was parked
abbrev pub parked_value : Figures → ℕ → List ℕ
parked_value f t =
    line (codes "task") (task_name f t) (codes "parked_ms") (decimal (of_task f t).parked)

-- how much a group may run in a period, and the most that it ran in one
unfoldable pub use_lines : List ℕ → ℕ → QuotaFigures → List ℕ
use_lines name quota x =
    line (codes "group") name (codes "quota_ms") (decimal quota)
    ++ line (codes "group") name (codes "period_ms") (decimal x.period_ms)
    ++ line (codes "group") name (codes "most_in_a_period_ms") (decimal x.most)

-- in how many periods the quota was used up, and for how long
unfoldable pub throttle_lines : List ℕ → QuotaFigures → List ℕ
throttle_lines name x =
    line (codes "group") name (codes "throttled_periods") (decimal x.throttled_periods)
    ++ line (codes "group") name (codes "throttled_ms") (decimal x.throttled)

-- how many periods there were, in how many of them the quota was used up, and for how long
unfoldable pub period_lines : List ℕ → QuotaFigures → List ℕ
period_lines name x =
    line (codes "group") name (codes "periods") (decimal x.periods) ++ throttle_lines name x

-- the lines of a group with that quota
unfoldable pub quota_lines : List ℕ → ℕ → QuotaFigures → List ℕ
quota_lines name quota x = use_lines name quota x ++ period_lines name x

-- the lines of a quota, if there is one
abbrev pub quota_lines_of : List ℕ → Option (ℕ × QuotaFigures) → List ℕ
quota_lines_of name None = []
quota_lines_of name (Some x) = quota_lines name x.0 x.1

-- the lines of the quota of the group of that number
abbrev pub quota_values : Figures → ℕ → List ℕ
quota_values f g = quota_lines_of (group_name f g) (limit_of f g)

-- how long each task was parked, and the figures of each quota; nothing if no group has one
unfoldable pub limit_values : Figures → List ℕ
limit_values f =
    if has_quota f then
    all_below (parked_value f) (length f.tasks.items)
    ++ all_below (quota_values f) (length f.quotas.groups.items)
    else []

-- ---- the policy

-- the policy is in force at the end, or for which task, fault or exit it was ejected
abbrev pub ending : Figures → Option Eject → List ℕ
ending f None = codes "in force"
ending f (Some (cause.Stall t clock)) = codes "stall " ++ task_name f t
ending f (Some (cause.Fault k clock)) = codes "fault " ++ decimal (fault_number k)
ending f (Some (cause.Exit n clock)) = codes "exit " ++ signed_decimal n

-- when it was ejected, if it was
unfoldable pub ejected_line : List ℕ → Option Eject → List ℕ
ejected_line name None = []
ejected_line name (Some (cause.Stall t clock)) =
    line (codes "policy") name (codes "ejected_at_ms") (decimal clock)
ejected_line name (Some (cause.Fault k clock)) =
    line (codes "policy") name (codes "ejected_at_ms") (decimal clock)
ejected_line name (Some (cause.Exit n clock)) =
    line (codes "policy") name (codes "ejected_at_ms") (decimal clock)

-- for how long some CPU was idle while a task waited, and how the policy ended
unfoldable pub policy_values : Figures → List ℕ
policy_values f =
    line (codes "policy") (string_bytes f.policy_name) (codes "idle_while_waiting_ms")
    (decimal f.losses.anywhere)
    ++ line (codes "policy") (string_bytes f.policy_name) (codes "ended") (ending f f.ejected)
    ++ ejected_line (string_bytes f.policy_name) f.ejected

-- ---- waits by percent, and wake-to-run latencies

-- the lengths that 50 and 90 of 100 waits of a task don't exceed
unfoldable pub half_lines : List ℕ → Lengths → List ℕ
half_lines name x =
    line (codes "task") name (codes "wait_50_percent_ms") (decimal (percentile 50 x))
    ++ line (codes "task") name (codes "wait_90_percent_ms") (decimal (percentile 90 x))

-- the names of the lines of some lengths: their count, three percentiles and the longest
pub record Labels : Type 0 where
  pub count : List ℕ
  pub half : List ℕ
  pub most : List ℕ
  pub nearly_all : List ℕ
  pub longest : List ℕ

-- those that are given
abbrev pub labels : LengthNames → Labels
labels x = record {
  count = x.count.now;
  half = x.half.now;
  most = x.most.now;
  nearly_all = x.nearly_all.now;
  longest = x.longest.now;
}

-- those of the wake-to-run latencies of a task
abbrev pub task_latency_labels : Labels
task_latency_labels = record {
  count = codes "wakes_to_run";
  half = codes "wake_to_run_50_percent_ms";
  most = codes "wake_to_run_90_percent_ms";
  nearly_all = codes "wake_to_run_99_percent_ms";
  longest = codes "longest_wake_to_run_ms";
}

-- those of the waits of the tasks of a group
abbrev pub group_wait_labels : Labels
group_wait_labels = record {
  count = codes "group_waits";
  half = codes "group_wait_50_percent_ms";
  most = codes "group_wait_90_percent_ms";
  nearly_all = codes "group_wait_99_percent_ms";
  longest = codes "group_longest_wait_ms";
}

-- those of their wake-to-run latencies
abbrev pub group_latency_labels : Labels
group_latency_labels = record {
  count = codes "group_wakes_to_run";
  half = codes "group_wake_to_run_50_percent_ms";
  most = codes "group_wake_to_run_90_percent_ms";
  nearly_all = codes "group_wake_to_run_99_percent_ms";
  longest = codes "group_longest_wake_to_run_ms";
}

-- the lengths that 50, 90 and 99 of 100 don't exceed, and the longest
unfoldable pub percentile_lines : List ℕ → List ℕ → Labels → Lengths → List ℕ
percentile_lines kind name l x =
    line kind name l.half (decimal (percentile 50 x))
    ++ line kind name l.most (decimal (percentile 90 x))
    ++ line kind name l.nearly_all (decimal (percentile 99 x))
    ++ line kind name l.longest (decimal x.longest)

-- how many lengths were counted and, if there are some, their percentiles and the longest
unfoldable pub counted_lines : List ℕ → List ℕ → Labels → Lengths → List ℕ
counted_lines kind name l x =
    line kind name l.count (decimal x.count)
    ++ (if x.count == 0 then [] else percentile_lines kind name l x)

-- the wake-to-run latencies of a task
unfoldable pub latency_lines : List ℕ → Lengths → List ℕ
latency_lines name x = counted_lines (codes "task") name task_latency_labels x

-- the lines of its latencies, if they are there
abbrev pub latency_lines_of : List ℕ → Option LatencyFigures → List ℕ
latency_lines_of name None = []
latency_lines_of name (Some x) = latency_lines name x.lengths

-- both of the task of that number
unfoldable pub task_waits : Figures → ℕ → List ℕ
task_waits f t =
    half_lines (task_name f t) (of_task f t).waits
    ++ latency_lines_of (task_name f t) (latencies_of f t)

-- both of a group, if they are there
abbrev pub group_waits_of : List ℕ → Option GroupWaits → List ℕ
group_waits_of name None = []
group_waits_of name (Some x) =
    counted_lines (codes "group") name group_wait_labels x.waits
    ++ counted_lines (codes "group") name group_latency_labels x.latencies

-- both of the group of that number
abbrev pub group_waits : Figures → ℕ → List ℕ
group_waits f g = group_waits_of (group_name f g) (waits_of_group f g)

-- both of all tasks and groups
unfoldable pub wait_values : Figures → List ℕ
wait_values f =
    all_below (task_waits f) (length f.tasks.items)
    ++ all_below (group_waits f) (length f.groups.items)

-- ---- all of them

-- the lines of all figures
unfoldable pub value_rows : Figures → List ℕ
value_rows f =
    all_below (task_values f) (length f.tasks.items)
    ++ all_below (cpu_values f) (length f.cpus.items)
    ++ all_below (group_values f) (length f.groups.items)
    ++ limit_values f ++ policy_values f ++ wait_values f

-- what `stats-csv` writes of these figures: the line that names the columns, and then their lines
abbrev pub values : Figures → List ℕ
values f = codes "kind,name,figure,value\n" ++ value_rows f
