-- Figures by the numbers of tasks, CPUs and groups, and their names.
use Rattle.std.specs.Prelude.{ℕ, Bool, List, Option, Some, None, is_some, slice_get, slice_index_or}
use Rattle.std.specs.List.{list_any}
use Rattle.scxsim_trace.specs.Lines as lines
use Rattle.scxsim_trace.specs.Lines.{names_of}
use Rattle.scxsim_statistics.specs.Counting.{figures_at, cpu_at}
use Rattle.scxsim_statistics.specs.declared.bursts.BurstFigures.{BurstFigures}
use Rattle.scxsim_statistics.specs.declared.gathering.Figures.{Figures}
use Rattle.scxsim_statistics.specs.declared.group_waits.GroupWaits.{GroupWaits}
use Rattle.scxsim_statistics.specs.declared.groups.GroupFigures.{GroupFigures}
use Rattle.scxsim_statistics.specs.declared.latencies.LatencyFigures.{LatencyFigures}
use Rattle.scxsim_views.specs.declared.quotas.QuotaFigures.{QuotaFigures}
use Rattle.scxsim_statistics.specs.declared.tally.CpuFigures.{CpuFigures}
use Rattle.scxsim_statistics.specs.declared.tally.TaskFigures.{TaskFigures}

-- the name of the task of that number; empty if there is none
abbrev pub task_name : Figures → ℕ → List ℕ
task_name f t = lines.task_name (names_of f.workload) t

-- the name of the group of that number; empty if there is none
abbrev pub group_name : Figures → ℕ → List ℕ
group_name f g = lines.group_name (names_of f.workload) g

-- the figures of the task of that number
abbrev pub of_task : Figures → ℕ → TaskFigures
of_task f t = figures_at f.tasks.items t

-- the bursts of the task of that number, if they are there
abbrev pub bursts_of : Figures → ℕ → Option BurstFigures
bursts_of f t = slice_get f.bursts.items t

-- the wake-to-run latencies of the task of that number, if they are there
abbrev pub latencies_of : Figures → ℕ → Option LatencyFigures
latencies_of f t = slice_get f.latencies.items t

-- the waits of the group of that number, if they are there
abbrev pub waits_of_group : Figures → ℕ → Option GroupWaits
waits_of_group f g = slice_get f.group_waits.items g

-- the figures of the CPU of that number
abbrev pub of_cpu : Figures → ℕ → CpuFigures
of_cpu f c = cpu_at f.cpus.items c

-- for how many milliseconds the CPU of that number was idle while a task waited, if it is there
abbrev pub lost_of : Figures → ℕ → Option ℕ
lost_of f c = slice_get f.losses.cpus.items c

-- the figures of the group of that number; all 0 if there is none
abbrev pub of_group : Figures → ℕ → GroupFigures
of_group f g = slice_index_or f.groups.items g (record { reached = 0; due = 0 })

-- that quota with its figures; none of a group that has none
abbrev pub with_quota : QuotaFigures → Option ℕ → Option (ℕ × QuotaFigures)
with_quota x None = None
with_quota x (Some quota) = Some (quota, x)

-- the quota of a group with its figures, if they are there
abbrev pub limit_in : Option QuotaFigures → Option (ℕ × QuotaFigures)
limit_in None = None
limit_in (Some x) = with_quota x x.quota_ms

-- the quota of the group of that number with its figures, if it has one
abbrev pub limit_of : Figures → ℕ → Option (ℕ × QuotaFigures)
limit_of f g = limit_in (slice_get f.quotas.groups.items g)

-- a group has a quota
abbrev pub has_quota : Figures → Bool
has_quota f = list_any (λ (q : QuotaFigures). is_some q.quota_ms) f.quotas.groups.items
